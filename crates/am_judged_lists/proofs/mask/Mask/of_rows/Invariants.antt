use Rattle.std.proofs.Common.{◌≡◌, ◌≤◌, ◌<◌, ◌++◌, ℕ, true, false, get_or}
use Rattle.am_judged_lists.specs.Rows.{all_allow}
use Rattle.am_judged_lists.proofs.mask.Mask.of_rows.Given as goal

-- the positions so far are permitted if the rows allow them, and the others are permitted
abbrev pub invariant-loop-j : goal.invariant-loop-j
invariant-loop-j l = record {
  below : (i : ℕ) → i < l.j → get_or l.mask i false ≡ all_allow (l.rows ++ l.more) l.label i;
  others : (i : ℕ) → l.j ≤ i → i < l.size → get_or l.mask i false ≡ true;
}
