use Rattle.std.proofs.Common.{rules, tests, ◌&&◌, ◌∙◌}
use Rattle.std.proofs.lemmas.Iterator.{YieldsList-from_slice}
use Rattle.std.proofs.lemmas.Iterator.Search.{any_from_yields_List}
use Rattle.am_eval.specs.Question.{reaches}
use Rattle.am_alerts.specs.declared.route_ends.RouteEnds.{RouteEnds}
use Rattle.am_alerts.specs.AlertLabels.{flag}
use Rattle.am_alerts.proofs.RowLemmas.{any_end}
use Rattle.am_alerts.proofs.route_ends.reaches.Goals as goal

pub returns : goal.returns
returns c =
    let alert = c.args.alert in
    let reach = c.args.reach in
    let path = c.args.path.now in
    any_from_yields_List (λ (row : RouteEnds). flag row.alerts.items alert && reaches reach path row.path) _ _
    c.any.result c.any.ensures.ran (YieldsList-from_slice c.args.rows.now cc) (λ x b q k. search (rules, tests))
    ∙ any_end reach path alert c.args.rows.now
