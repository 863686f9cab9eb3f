use Rattle.std.proofs.Common.{◌≡◌, ◌==◌, true, not, take}
use Rattle.std.specs.List.{list_all}
use Rattle.am_judged_lists.proofs.cube.Cube.mask_of.Given as goal

-- no mask so far is of the label
abbrev pub invariant-loop-m : goal.invariant-loop-m
invariant-loop-m l = list_all (λ m. not (m.label == l.label)) (take l.m-index l.m-items) ≡ true
