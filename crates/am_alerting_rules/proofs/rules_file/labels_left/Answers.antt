use Rattle.std.proofs.Common.{◌++◌, ◌+◌, ◌<◌, ◌≡◌, ◌∙◌, ◌∷◌, ℕ, Bool, List, [], ap, arith, cond, get_or, length, sym, take}
use Rattle.std.specs.List.{list_any}
use Rattle.std.specs.Prelude.{not}
use Rattle.std.proofs.lemmas.Grind.{common_steps}
use Rattle.std.proofs.lemmas.List.Elements.{filter_more}
use Rattle.am_universe.specs.Text.{same_text}
use Rattle.am_alerting_rules.specs.RulesFile.{labels_left}
use Rattle.am_alerting_rules.proofs.rules_file.labels_left.Goals as goal
use Rattle.am_alerting_rules.proofs.rules_file.labels_left.Goals.{then-not-has_label+in_ok-push, else-not-has_label}

-- with one more label, which the rule may set itself
one_more : (own labels : List (List ℕ × List ℕ)) (i : ℕ) (label : List ℕ × List ℕ) (there : Bool)
    → i < length labels → label ≡ get_or labels i label
    → there ≡ list_any (λ o. same_text o.0 label.0) own
    → labels_left own (take (i + 1) labels)
    ≡ labels_left own (take i labels) ++ cond (not there) (label ∷ []) []
one_more own labels i label there lt is has =
    let test : List ℕ × List ℕ → Bool = λ l. not (list_any (λ o. same_text o.0 l.0) own) in
    filter_more test labels i label lt
    ∙ ap (λ l. labels_left own (take i labels) ++ cond (test l) (l ∷ []) []) (sym is)
    ∙ ap (λ b. labels_left own (take i labels) ++ cond (not b) (label ∷ []) []) (sym has)

pub loop-label-preserved : goal.loop-label-preserved
loop-label-preserved c =
    let l = c.loop-label in
    let more = one_more c.args.own.now c.args.labels.now l.label-index c.label-item.result
    c.has_label.result (rw c.as_slice-label-items.ensures.labels at c.loop-label-test.true)
    (rw c.as_slice-label-items.ensures.labels at c.label-item.is)
    (rw c.name.ensures.name at c.has_label.ensures) in
    rw more (elim c.if-not-has_label.branch [
      | then-not-has_label+in_ok-push w ↦ grind (arith, common_steps)
      | else-not-has_label w ↦ grind (arith, common_steps)
    ])
