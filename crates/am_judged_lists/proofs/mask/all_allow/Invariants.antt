use Rattle.std.proofs.Common.{◌≡◌, true, take}
use Rattle.am_judged_lists.specs.Rows.{all_allow}
use Rattle.am_judged_lists.proofs.mask.all_allow.Given as goal

-- the rows so far allow the position
abbrev pub invariant-loop-row : goal.invariant-loop-row
invariant-loop-row l = all_allow (take l.row-index l.rows) l.label l.position ≡ true
