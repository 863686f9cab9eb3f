-- The ends of one more alert.
use Rattle.std.proofs.Common.{◌≡◌, ◌||◌, Some, ap, sym, ◌∙◌}
use Rattle.std.specs.Prelude.{slice_get}
use Rattle.std.proofs.Math.Bool.{or_assoc}
use Rattle.am_universe.proofs.Members.{left_at}
use Rattle.am_eval.specs.Routing.{ends}
use Rattle.am_firing.specs.Reach.{leads_to, paths_of}
use Rattle.am_firing.specs.Unreached.{enters}
use Rattle.am_firing.proofs.entered.ends_of_alerts.Goals as goal

pub loop-i-preserved : goal.loop-i-preserved
loop-i-preserved c = λ path.
    let w = c.args.world.now in
    let i = c.loop-i.i in
    let alert = c.get.result.now in
    let before = paths_of c.loop-i.found in
    let all : c.as_slice.result.now ≡ ends alert w.config =
    c.as_slice.ensures.value ∙ c.in_ok-paths.ensures.ends ∙ ap (ends alert) c.config.ensures.config in
    let at : slice_get w.alerts i ≡ Some alert =
    ap (λ xs. slice_get xs i) (sym c.alerts-in-loop-i.ensures.alerts) ∙ c.get.ensures.alert in
    let step : leads_to (paths_of c.add_paths.new.found) path
    ≡ (leads_to before path || enters w.config path alert) =
    c.in_ok-add_paths.ensures path ∙ ap (λ xs. leads_to before path || leads_to xs path) all in
    rw step (or_assoc (leads_to before path) (enters w.config path alert) _
    ∙ (rw (left_at w.alerts i alert at) at (c.loop-i.invariant path)))
