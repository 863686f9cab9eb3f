-- An alternative is the empty text, or some alert has it, or it is told if it has a similar value.
use Rattle.std.proofs.Common.{[], ◌∷◌, map, not, refl, sym, ap, ◌∙◌}
use Rattle.std.proofs.Common.{Bor, List, ℕ, option_map}
use Rattle.am_labels.specs.Matcher.{Matcher}
use Rattle.am_complete.specs.declared.origin.Origin.{Origin}
use Rattle.am_complete.proofs.LabelStates.{empty_begins}
use Rattle.am_labels.specs.declared.op.Op.TheVariants.{Equal}
use Rattle.am_unseen.specs.Similar.{most_similar}
use Rattle.am_unseen.specs.Unseen.{values_beside}
use Rattle.am_unseen.specs.Search.{texts_of}
use Rattle.am_unseen.proofs.MisspelledSteps.{empty_text, seen_text, told_text}
use Rattle.am_unseen.proofs.SeenValues.{text_there}
use Rattle.am_unseen.proofs.misspelled.misspelled.Goals as goal
use Rattle.am_unseen.proofs.misspelled.misspelled.Goals.{then-is_empty-via-then-is_empty}
use Rattle.am_unseen.proofs.misspelled.misspelled.Goals.{then-is_empty-via-else-is_empty+then-contains}

pub returns-then-is_empty-clause-found : goal.returns-then-is_empty-clause-found
returns-then-is_empty-clause-found c =
    let values = texts_of c.args.values.now in
    let others = values_beside (texts_of c.args.but.now) values in
    let placed : Origin × Matcher = (c.args.origin.now, c.args.matcher.now) in
    let text = c.args.text.now in
    c.new.ensures.items ∙ elim c.then-is_empty.branch [
      | then-is_empty-via-then-is_empty w ↦
          empty_text values others placed text
          (sym (empty_begins text) ∙ ap not (sym c.is_empty.ensures ∙ w.if-is_empty.true))
      | then-is_empty-via-else-is_empty+then-contains w ↦
          seen_text values others placed text
          (sym (text_there _ text (λ k. refl) c.args.values.now.keys)
          ∙ sym w.contains.ensures ∙ w.if-contains.true)
    ]

pub returns-clause-found : goal.returns-clause-found
returns-clause-found c =
    let values = texts_of c.args.values.now in
    let others = values_beside (texts_of c.args.but.now) values in
    let m = c.args.matcher.now in
    let text = c.args.text.now in
    c.in_ok-vec.ensures.items
    ∙ (λ i. record {
      origin = c.args.origin.now;
      matcher = record { name = c.name.ensures.name i; op = Equal; value = text };
      similar = option_map (λ (v : Bor (List ℕ)). v.now) c.in_ok-similar.similar;
    } ∷ [])
    ∙ told_text values others (c.args.origin.now, m) text c.in_ok-similar.similar
    (sym (empty_begins text) ∙ ap not (sym c.is_empty.ensures ∙ c.if-is_empty.false))
    (sym (text_there _ text (λ k. refl) c.args.values.now.keys) ∙ sym c.contains.ensures
    ∙ c.if-contains.false)
    (c.is_none.ensures ∙ ap not c.if-is_none.false)
    (c.in_ok-similar.ensures.similar
    ∙ ap (λ vs. most_similar text (values_beside (texts_of c.args.but.now) vs)) c.requires)
