use Rattle.std.proofs.Common.{◌≡◌, ◌++◌, map, take}
use Rattle.am_complete.specs.Missing.{names_to_declare}
use Rattle.am_complete.proofs.made_universe.add_names.Given as goal

-- after the others come the names of the labels so far that are to be declared
abbrev pub invariant-loop-label : goal.invariant-loop-label
invariant-loop-label l =
    map (λ n. n.now) l.names.items
    ≡ map (λ n. n.now) l.fn.names.items
    ++ names_to_declare l.universe (take l.label-index l.missing)
