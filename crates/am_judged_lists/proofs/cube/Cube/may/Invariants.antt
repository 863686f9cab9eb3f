use Rattle.std.proofs.Common.{◌≡◌, true, drop}
use Rattle.std.specs.List.{list_all}
use Rattle.am_judged_lists.proofs.CubeLemmas.{fits}
use Rattle.am_judged_lists.proofs.cube.Cube.may.Given as goal

-- the masks from here on forbid nothing
abbrev pub invariant-loop-i : goal.invariant-loop-i
invariant-loop-i l = list_all (fits l.prefix) (drop l.i l.self-inside.masks.items) ≡ true
