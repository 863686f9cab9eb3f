use Rattle.std.proofs.Common.{◌≡◌, ℕ, ◌/◌, ◌<◌, ◌&&◌, false, get_or}
use Rattle.am_judged_lists.specs.declared.mask.TheConstants.{WORD}
use Rattle.am_judged_lists.proofs.WordLemmas.{in_part}
use Rattle.am_judged_lists.proofs.mask.Mask.any_in.Given as goal

-- the words so far have no position in the part
abbrev pub invariant-loop-i : goal.invariant-loop-i
invariant-loop-i l =
    (j : ℕ) → j / WORD < l.i → (get_or l.self j false && in_part l.part l.other j) ≡ false
