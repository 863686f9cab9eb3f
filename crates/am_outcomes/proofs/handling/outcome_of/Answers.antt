use Rattle.std.proofs.Common.{◌≡◌, [], ◌∷◌, ap, sym, ◌∙◌}
use Rattle.am_universe.specs.LabelSet.{label_set_of}
use Rattle.am_eval.specs.Routing.{receivers}
use Rattle.am_differences.specs.Options.{differing_options, options_of_pairs}
use Rattle.am_outcomes.specs.Handling.{other_options}
use Rattle.am_outcomes.specs.Outcomes.{outcome_of}
use Rattle.am_outcomes.specs.OutcomesView.{routes_view}
use Rattle.am_outcomes.specs.Routers.{router_config, routed_configurations}
use Rattle.am_outcomes.proofs.HandlerReceivers.{receivers_found, options_found}
use Rattle.am_outcomes.proofs.handling.outcome_of.Goals as goal

pub returns-in_ok-vec-in-Pair : goal.returns-in_ok-vec-in-Pair
returns-in_ok-vec-in-Pair c =
    let u = c.args.universe.now in
    let s = label_set_of u c.args.choice.now in
    let old = router_config c.in-Pair.old in
    let new = router_config c.in-Pair.new in
    let over = rw c.in-Pair.is at c.requires.over in
    let olds = ap routes_view c.as_slice-before.ensures.value
    ∙ c.in_ok-before-in-Pair.ensures u c.requires.whole over.0 in
    let news = ap routes_view c.as_slice-after.ensures.value
    ∙ c.in_ok-after-in-Pair.ensures u c.requires.whole over.1 in
    let before : c.in_ok-old_receivers-in-Pair.old_receivers.items ≡ receivers s old =
    receivers_found s old _ _ olds c.in_ok-old_receivers-in-Pair.ensures in
    let after : c.in_ok-new_receivers-in-Pair.new_receivers.items ≡ receivers s new =
    receivers_found s new _ _ news c.in_ok-new_receivers-in-Pair.ensures in
    let options : c.in_ok-options-in-Pair.options.items ≡ other_options old new s =
    c.in_ok-options-in-Pair.ensures.differing
    ∙ ap (λ ps. differing_options (options_of_pairs ps)) c.as_slice.ensures.value
    ∙ options_found s old new _ _ _ c.in_ok-pairs-in-Pair.ensures olds news in
    rw (c.in_ok-vec-in-Pair.ensures.items)
    ((λ i. before i ∷ after i ∷ options i ∷ [])
    ∙ ap (λ k. outcome_of (routed_configurations k) s) (sym c.in-Pair.is))
