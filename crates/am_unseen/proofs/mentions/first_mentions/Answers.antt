-- The mentions in routes, then in rules, then in silences, are all mentions.
use Rattle.std.proofs.Common.{◌≡◌, [], ◌++◌, sym, ap, ◌∙◌, fold, append_assoc}
use Rattle.std.proofs.lemmas.List.Sums.{fold-append}
use Rattle.am_config.specs.ConfigFile.{Configuration}
use Rattle.am_asked.specs.Placed.{placed_in_routes}
use Rattle.am_unseen.specs.Unseen.{placed_in_silences_left}
use Rattle.am_unseen.specs.UnseenNames.{mentioned_by, mentioned_in_rules, mentions}
use Rattle.am_unseen.specs.Search.{Mentions, mentioned, after_mention}
use Rattle.am_unseen.proofs.FirstMentions.{by_matchers, firsts_are}
use Rattle.am_unseen.proofs.mentions.first_mentions.Goals as goal

pub returns : goal.returns
returns c =
    let w = c.args.world.now in
    let routes = mentioned_by (placed_in_routes w.config) in
    let rules = mentioned_in_rules w.config.rules in
    let left = placed_in_silences_left w in
    let none : Mentions = record { names = []; firsts = [] } in
    let sides : c.rules.result.now ≡ w.config.rules =
    c.rules.ensures.rules ∙ ap (λ (k : Configuration). k.rules) c.config-2.ensures.config in
    let first : c.visit_routes.new.visitor ≡ fold mentioned none routes =
    c.in_ok-visit_routes.ensures.visit
    ∙ (λ i. fold after_mention (c.none-found.ensures i) (placed_in_routes (c.config.ensures.config i)))
    ∙ by_matchers none (placed_in_routes w.config) in
    let second : c.add_rules.new.found ≡ fold mentioned none (routes ++ rules) =
    c.in_ok-add_rules.ensures
    ∙ (λ i. fold mentioned (first i) (mentioned_in_rules (sides i)))
    ∙ sym (fold-append mentioned none routes rules) in
    let last : c.visit_silences_left.new.visitor ≡ fold mentioned none (mentions w) =
    c.in_ok-visit_silences_left.ensures ∙ ap (λ s. fold after_mention s left) second
    ∙ by_matchers (fold mentioned none (routes ++ rules)) left
    ∙ sym (fold-append mentioned none (routes ++ rules) (mentioned_by left))
    ∙ ap (fold mentioned none) (append_assoc routes rules (mentioned_by left)) in
    c.into_firsts.ensures ∙ ap (λ (s : Mentions). s.firsts) last ∙ firsts_are (mentions w)
