-- One label more, if the choice picks a text for it.
use Rattle.std.proofs.Common.{◌≡◌, ap, sym, ◌∙◌, length, arith}
use Rattle.std.specs.Option.{option_map}
use Rattle.std.proofs.lemmas.Grind.{common_steps}
use Rattle.std.proofs.lemmas.List.{length-map}
use Rattle.am_universe.proofs.WholeChoiceLemmas.{admitted_at}
use Rattle.am_universe.proofs.SetTextLemmas.{next_pair, no_pair}
use Rattle.am_report_texts.proofs.shown.label_set.Goals as goal
use Rattle.am_report_texts.proofs.shown.label_set.Goals.{in-Some+in_ok-push, in_default}

pub value-requires-clause-value : goal.value-requires-clause-value
value-requires-clause-value c =
    let below = admitted_at _ c.args.choice.now c.loop-i.i c.requires.0 in
    grind (arith, common_steps, below)

pub loop-i-preserved : goal.loop-i-preserved
loop-i-preserved c =
    let u = c.args.universe.now in
    let whole : length c.args.choice.now ≡ length u = c.requires.1 ∙ length-map _ _ in
    let is = c.from.ensures ∙ c.get.ensures.position in
    elim c.match-value.branch [
      | in-Some+in_ok-push w ↦
          let text = sym (ap (option_map (λ t. t.now)) w.in-Some.is) ∙ c.value.ensures.text in
          let next = next_pair u c.args.choice.now c.loop-i.i _ w.name.result.now
          w.in-Some.value.now whole (omega arith) is w.name.ensures.name text in
          rw (w.labels-is, w.in_ok-push.ensures.items, next) (grind (arith, common_steps))
      | in_default w ↦
          let none = sym (ap (option_map (λ t. t.now)) w.in_default.is) ∙ c.value.ensures.text in
          rw (w.labels-is, no_pair u c.args.choice.now c.loop-i.i _ whole (omega arith) is none)
          c.loop-i.invariant
    ]
