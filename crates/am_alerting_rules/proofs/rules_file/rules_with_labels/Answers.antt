use Rattle.std.proofs.Common.{[], ap, arith, map, refl, ◌++◌, ◌∙◌, ◌∷◌, ◌≡◌}
use Rattle.std.proofs.lemmas.Grind.{common_steps}
use Rattle.std.proofs.lemmas.List.{map-append}
use Rattle.std.proofs.lemmas.List.Elements.{filter_map-append}
use Rattle.am_alerting_rules.specs.RulesFile.{rules_among, with_labels_below}
use Rattle.am_alerting_rules.proofs.rules_file.rules_with_labels.Goals as goal

pub loop-rule-preserved-in_ok-push : goal.loop-rule-preserved-in_ok-push
loop-rule-preserved-in_ok-push c =
    let l = c.loop-rule in
    let below = with_labels_below c.args.labels.now in
    let one : rules_among (c.in-Some.rule ∷ []) ≡ c.in-Some-rule.rule ∷ [] = rw c.in-Some-rule.is refl in
    let more = filter_map-append (λ r. r) l.yielded (c.in-Some.rule ∷ []) in
    let all : map below (rules_among (l.yielded ++ c.in-Some.rule ∷ []))
    ≡ map below (rules_among l.yielded) ++ below c.in-Some-rule.rule ∷ [] =
    ap (map below) (more ∙ ap (λ rs. rules_among l.yielded ++ rs) one)
    ∙ map-append below (rules_among l.yielded) (c.in-Some-rule.rule ∷ []) in
    grind (arith, common_steps, all)

pub loop-rule-preserved : goal.loop-rule-preserved
loop-rule-preserved c =
    let l = c.loop-rule in
    let more = filter_map-append (λ r. r) l.yielded (c.in-Some.rule ∷ []) in
    grind (arith, common_steps, more)
