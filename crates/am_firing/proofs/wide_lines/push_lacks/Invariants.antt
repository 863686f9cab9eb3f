use Rattle.std.proofs.Common.{◌≡◌, map, take}
use Rattle.am_firing.proofs.wide_lines.push_lacks.Given as goal

abbrev pub invariant-loop-name : goal.invariant-loop-name
invariant-loop-name l =
    map (λ n. n.0.now) l.shown.items ≡ map (λ name. name.now) (take l.name-index l.names)
