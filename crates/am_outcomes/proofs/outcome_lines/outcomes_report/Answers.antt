use Rattle.am_outcomes.specs.Configurations.{One}
use Rattle.std.proofs.lemmas.List.{map_push}
use Rattle.am_config.specs.ConfigView.{config_view}
use Rattle.am_judged_lists.proofs.RowLemmas.{mapped_more}
use Rattle.am_outcomes.specs.OutcomeLines.{outcome_line}
use Rattle.am_outcomes.proofs.LineSteps.{whole_at}
use Rattle.am_outcomes.proofs.outcome_lines.outcomes_report.Goals as goal

pub outcome_line-requires : goal.outcome_line-requires
outcome_line-requires c =
    whole_at c.requires.0 (One (config_view c.args.config.now)) c.args.outcomes.now
    c.args.universe.now c.loop-i.i _ c.requires.1 c.requires.2 c.get.ensures.outcome

pub loop-i-preserved : goal.loop-i-preserved
loop-i-preserved c =
    rw (c.in_ok-push.ensures.items, map_push)
    (mapped_more (outcome_line c.args.universe.now (config_view c.args.config.now))
    c.args.outcomes.now c.loop-i.i _ _ _ c.loop-i.invariant c.get.ensures.outcome
    c.in_ok-outcome_line.ensures)
