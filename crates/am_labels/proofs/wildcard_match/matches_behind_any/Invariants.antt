use Rattle.std.proofs.Common.{◌≡◌, ◌+◌, length}
use Rattle.am_labels.specs.Wildcards.{after_any, matches, pieces_of}
use Rattle.am_labels.proofs.wildcard_match.matches_behind_any.Given as goal

abbrev pub invariant-loop-byte : goal.invariant-loop-byte
invariant-loop-byte l =
    after_any (matches (pieces_of l.alternative)) l.text
    ≡ after_any (matches (pieces_of l.initial.alternative)) l.initial.text

abbrev pub decreases-loop-byte : goal.decreases-loop-byte
decreases-loop-byte l = length l.alternative + length l.text
