use Rattle.std.proofs.Common.{◌≡◌, take}
use Rattle.am_lint.specs.Literals.{named_paths}
use Rattle.am_lint.proofs.arrival.named_routes.Given as goal

-- the paths so far
abbrev pub invariant-loop-literal : goal.invariant-loop-literal
invariant-loop-literal l =
    l.routes.items ≡ named_paths l.table.routes.items (take l.literal-index l.literals)
