-- The search over the routes, then over the rules, then over the silences, is the search over all.
use Rattle.std.proofs.Common.{◌≡◌, [], ◌++◌, sym, ap, ◌∙◌, fold, append_assoc}
use Rattle.std.proofs.lemmas.List.Sums.{fold-append}
use Rattle.am_config.specs.ConfigFile.{Configuration}
use Rattle.am_asked.specs.Placed.{placed_in_routes, placed_in_rules}
use Rattle.am_unseen.specs.Unseen.{placed_in_silences_left, placed_to_see}
use Rattle.am_unseen.specs.Search.{Search, after_matcher}
use Rattle.am_unseen.proofs.SearchSteps.{found_after}
use Rattle.am_unseen.proofs.search.unseen_matchers.Goals as goal

pub returns : goal.returns
returns c =
    let w = c.args.world.now in
    let routes = placed_in_routes w.config in
    let rules = placed_in_rules w.config.rules in
    let left = placed_in_silences_left w in
    let known = w.alerts ++ c.args.rules.now in
    let first : Search = record { known = known; found = [] } in
    let start : c.among-search.result ≡ first =
    c.among-search.ensures
    ∙ (λ i. record { known = c.alerts.ensures.alerts i ++ c.args.rules.now; found = [] }) in
    let sides : c.rules.result.now ≡ w.config.rules =
    c.rules.ensures.rules ∙ ap (λ (k : Configuration). k.rules) c.config-2.ensures.config in
    let second : c.visit_routes.new.visitor ≡ fold after_matcher first routes =
    c.in_ok-visit_routes.ensures.visit
    ∙ (λ i. fold after_matcher (start i) (placed_in_routes (c.config.ensures.config i))) in
    let third : c.visit_rules.new.visitor ≡ fold after_matcher first (routes ++ rules) =
    c.in_ok-visit_rules.ensures.visit
    ∙ (λ i. fold after_matcher (second i) (placed_in_rules (sides i)))
    ∙ sym (fold-append after_matcher first routes rules) in
    let last : c.visit_silences_left.new.visitor ≡ fold after_matcher first (placed_to_see w) =
    c.in_ok-visit_silences_left.ensures ∙ ap (λ s. fold after_matcher s left) third
    ∙ sym (fold-append after_matcher first (routes ++ rules) left)
    ∙ ap (fold after_matcher first) (append_assoc routes rules left) in
    c.into_found.ensures
    ∙ ap (λ (s : Search). s.found) (last ∙ found_after known [] (placed_to_see w))
