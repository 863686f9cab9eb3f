use Rattle.std.proofs.Common.{◌≡◌, ◌++◌, length, string_bytes}
use denote.Text.{Utf8}
use denote.Shadow.{shadow}
use Rattle.am_labels.specs.MatcherText.{unescaped_text}
use Rattle.am_labels.proofs.matcher_text.unescape.Given as goal

abbrev pub invariant-loop-plain : goal.invariant-loop-plain
invariant-loop-plain l =
    shadow (Utf8 l.rest)
    × (string_bytes l.value ++ unescaped_text l.rest ≡ unescaped_text l.body)

abbrev pub decreases-loop-plain : goal.decreases-loop-plain
decreases-loop-plain l = length l.rest
