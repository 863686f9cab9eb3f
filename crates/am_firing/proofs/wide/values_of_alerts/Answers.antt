-- The values of one more alert.
use Rattle.std.proofs.Common.{[], ◌∷◌, map, ◌∙◌, append_assoc}
use Rattle.std.proofs.lemmas.List.{map-append}
use Rattle.am_universe.proofs.Members.{left_at}
use Rattle.am_config.specs.RouteView.{names_of}
use Rattle.am_firing.specs.Deciding.{texts_of, values_of}
use Rattle.am_firing.proofs.wide.values_of_alerts.Goals as goal

pub loop-i-preserved : goal.loop-i-preserved
loop-i-preserved c =
    let alert = c.get.result.now in
    let one = values_of (names_of c.args.names.now) in
    rw (c.in_ok-push.ensures.items, map-append texts_of, c.in_ok-values_of.ensures)
    (append_assoc (map texts_of c.loop-i.found.items) (one alert ∷ []) _
    ∙ (rw (left_at c.args.alerts.now c.loop-i.i alert c.get.ensures.alert) at c.loop-i.invariant))
