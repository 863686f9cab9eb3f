-- It is known of each receiver whether an alert goes to it.
use Rattle.std.proofs.Common.{◌≡◌, length, ap, ◌∙◌, arith}
use Rattle.std.proofs.lemmas.List.FromFn.{length-map-range_with_len}
use Rattle.am_config.specs.ConfigFile.{Configuration}
use Rattle.am_firing.specs.Reach.{Reached}
use Rattle.am_firing.specs.Unreached.{gets_some}
use Rattle.am_firing.proofs.firing_lines.push_firing_lines.Goals as goal

pub push_unreached-requires-clause-reached_receivers :
    goal.push_unreached-requires-clause-reached_receivers
push_unreached-requires-clause-reached_receivers c =
    let w = c.args.world.now in
    let receivers = c.in_ok-reached.reached.receivers in
    let long : length receivers.items ≡ length w.config.receivers =
    ap (λ (r : Reached). length r.receivers) c.in_ok-reached.ensures
    ∙ length-map-range_with_len (gets_some w) 0 (length w.config.receivers) in
    omega (
      arith,
      receivers.ok.0,
      ap (λ (k : Configuration). length k.receivers) c.config-config.ensures.config,
    )
