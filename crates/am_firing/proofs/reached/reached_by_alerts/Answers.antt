-- What is kept is what the alerts reach.
use Rattle.std.proofs.Common.{◌≡◌, ◌==◌, length, map, not, ap, ◌∙◌}
use Rattle.am_config.specs.ConfigFile.{Configuration}
use Rattle.am_firing.specs.Reach.{sides_matched}
use Rattle.am_firing.proofs.MarkedRows.{some_positions}
use Rattle.am_firing.proofs.reached.reached_by_alerts.Goals as goal

pub returns : goal.returns
returns c =
    let w = c.args.world.now in
    let any : not c.is_empty.result ≡ not (length w.alerts == 0) =
    ap not (c.is_empty.ensures.empty ∙ ap (λ alerts. length alerts == 0) c.alerts.ensures.alerts) in
    let rules : c.rules.result.now ≡ w.config.rules =
    c.rules.ensures.rules ∙ ap (λ (k : Configuration). k.rules) c.config.ensures.config in
    let receivers =
    c.in_ok-have_positions.ensures ∙ some_positions w c.args.going.now c.requires in
    let sides : c.in_ok-sides_matched.field-0.items ≡ map (sides_matched w.alerts) w.config.rules =
    c.in_ok-sides_matched.ensures
    ∙ (λ k. map (sides_matched (c.alerts-2.ensures.alerts k)) (rules k)) in
    λ k. record {
      is_any = any k;
      entered = λ path. c.in_ok-ends_of_alerts.ensures path k;
      receivers = receivers k;
      sides = sides k;
    }
