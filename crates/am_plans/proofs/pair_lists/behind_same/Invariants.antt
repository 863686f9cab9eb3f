use Rattle.std.proofs.Common.{◌≡◌, ℕ, ◌<◌, ◌≤◌, slice_get, Some}
use Rattle.am_plans.specs.declared.pair_lists.PairSide.{PairSide}
use Rattle.am_plans.proofs.pair_lists.behind_same.Given as goal

-- the pairs so far require the same
abbrev pub invariant-loop-i : goal.invariant-loop-i
invariant-loop-i l =
    (j : ℕ) (x : PairSide) → l.place ≤ j → j < l.i → slice_get l.sides j ≡ Some x → x ≡ l.side
