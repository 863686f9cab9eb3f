-- The bytes so far lead to the same.
use Rattle.std.proofs.Common.{◌≡◌, ℕ, ◌<◌, true, option_map, slice_index}
use Rattle.regex_nfa.specs.States.{next_on}
use Rattle.am_scan.specs.Sight.{is_scanned}
use Rattle.am_scan.proofs.trim_check.does_same.Given as goal

abbrev pub invariant-loop-byte : goal.invariant-loop-byte
invariant-loop-byte l = (b : ℕ) → b < l.byte → is_scanned l.bytes b ≡ true
    → option_map (slice_index l.origins) (next_on l.trimmed.transitions.items l.state b)
    ≡ next_on l.nfa.transitions.items l.whole b
