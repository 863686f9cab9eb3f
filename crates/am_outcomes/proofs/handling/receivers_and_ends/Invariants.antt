use Rattle.std.proofs.Common.{◌≡◌, ◌∷◌, ◌++◌, drop}
use Rattle.am_config.specs.ConfigView.{config_view}
use Rattle.am_eval.specs.Routing.{receivers, ends}
use Rattle.am_outcomes.specs.OutcomesView.{lists_view}
use Rattle.am_outcomes.proofs.handling.receivers_and_ends.Given as goal

-- the lists so far, and the paths that are left, are all lists
abbrev pub invariant-loop-path : goal.invariant-loop-path
invariant-loop-path l =
    lists_view l.lists.items ++ drop l.path-index l.path-items
    ≡ receivers l.set (config_view l.config) ∷ ends l.set (config_view l.config)
