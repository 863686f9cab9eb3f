-- A question with its lists has the truth of the question.
use Rattle.std.proofs.Common.{sym, ◌∙◌}
use Rattle.am_eval.specs.declared.property.Property.TheVariants.{Silenced, Inhibited}
use Rattle.am_eval.specs.declared.reach.Reach.TheVariants.{Ends, Enters}
use Rattle.am_eval.specs.declared.question.Question.TheOpen.{Question-F}
use Rattle.am_eval.specs.declared.question.Question.TheVariants as variants
use Rattle.am_eval.specs.QuestionView.{question_view}
use Rattle.am_eval.proofs.QuestionSeen.{seen_by}
use Rattle.am_plans.proofs.QuestionSteps.{is_made, receiver_made, route_made}
use Rattle.am_plans.proofs.QuestionSteps.{not_made, and_made, or_made}
use Rattle.am_plans.proofs.question_lists.QuestionLists.+of.Goals as goal

pub returns-in-Silenced : goal.returns-in-Silenced
returns-in-Silenced t c = record {
  exact = rw (seen_by Question-F.Silenced (variants.rolls-Silenced ∙ sym c.in-Silenced.is))
      (is_made c.args.universe.now c.args.routes.now Silenced);
}

pub returns-in-Inhibited : goal.returns-in-Inhibited
returns-in-Inhibited t c = record {
  exact = rw (seen_by Question-F.Inhibited (variants.rolls-Inhibited ∙ sym c.in-Inhibited.is))
      (is_made c.args.universe.now c.args.routes.now Inhibited);
}

pub returns-in-Receiver : goal.returns-in-Receiver
returns-in-Receiver t c = record {
  exact = rw (seen_by (Question-F.Receiver _) (variants.rolls-Receiver _ ∙ sym c.in-Receiver.is))
      (receiver_made c.args.universe.now c.args.routes.now c.in-Receiver.receiver c.places_of-receiving.result c.places_of-receiving.ensures);
}

pub returns-in-Ends : goal.returns-in-Ends
returns-in-Ends t c = record {
  exact = rw (
    seen_by (Question-F.Ends _) (variants.rolls-Ends _ ∙ sym c.in-Ends.is),
    ← c.steps.ensures.steps,
  ) (route_made c.args.universe.now c.args.routes.now Ends c.steps.result.now c.places_of-route.result c.places_of-route.ensures);
}

pub returns-in-Enters : goal.returns-in-Enters
returns-in-Enters t c = record {
  exact = rw (
    seen_by (Question-F.Enters _) (variants.rolls-Enters _ ∙ sym c.in-Enters.is),
    ← c.steps-in-Enters.ensures.steps,
  ) (route_made c.args.universe.now c.args.routes.now Enters c.steps-in-Enters.result.now c.places_of-route-in-Enters.result c.places_of-route-in-Enters.ensures);
}

pub returns-in_ok-new-in-Not : goal.returns-in_ok-new-in-Not
returns-in_ok-new-in-Not t c = record {
  exact = rw (seen_by (Question-F.Not _) (variants.rolls-Not _ ∙ sym c.in-Not.is))
      (not_made c.args.universe.now c.args.routes.now (question_view c.in-Not.question.value) c.in_ok-new-in-Not.field-0
      (rw (c.in_ok-new-in-Not.ensures.ok, ← c.deref.ensures) c.in_ok-lists-in-Not.ensures.exact));
}

pub returns-in_ok-new-in-And-2 : goal.returns-in_ok-new-in-And-2
returns-in_ok-new-in-And-2 t c = record {
  exact = rw (seen_by (Question-F.And _ _) (variants.rolls-And _ _ ∙ sym c.in-And.is))
      (and_made c.args.universe.now c.args.routes.now (question_view c.in-And.left.value)
      (question_view c.in-And.right.value) c.in_ok-new-in-And.field-0 c.in_ok-new-in-And-2.field-0
      (rw (c.in_ok-new-in-And.ensures.ok, ← c.deref-in-And.ensures)
      c.in_ok-left-in-And.ensures.exact)
      (rw (c.in_ok-new-in-And-2.ensures.ok, ← c.deref-in-And-2.ensures)
      c.in_ok-right-in-And.ensures.exact));
}

pub returns-in_ok-new-in-Or-2 : goal.returns-in_ok-new-in-Or-2
returns-in_ok-new-in-Or-2 t c = record {
  exact = rw (seen_by (Question-F.Or _ _) (variants.rolls-Or _ _ ∙ sym c.in-Or.is))
      (or_made c.args.universe.now c.args.routes.now (question_view c.in-Or.left.value)
      (question_view c.in-Or.right.value) c.in_ok-new-in-Or.field-0 c.in_ok-new-in-Or-2.field-0
      (rw (c.in_ok-new-in-Or.ensures.ok, ← c.deref-in-Or.ensures) c.in_ok-left-in-Or.ensures.exact)
      (rw (c.in_ok-new-in-Or-2.ensures.ok, ← c.deref-in-Or-2.ensures)
      c.in_ok-right-in-Or.ensures.exact));
}
