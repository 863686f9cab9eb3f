use Rattle.std.proofs.Common.{◌≡◌, ◌||◌, ℕ, List, take}
use Rattle.am_firing.specs.Reach.{leads_to, paths_of}
use Rattle.am_firing.proofs.entered.add_paths.Given as goal

-- what the paths so far add
abbrev pub invariant-loop-path : goal.invariant-loop-path
invariant-loop-path l =
    (path : List ℕ) → leads_to (paths_of l.found) path
    ≡ (leads_to (paths_of l.initial.found) path || leads_to (take l.path-index l.paths) path)
