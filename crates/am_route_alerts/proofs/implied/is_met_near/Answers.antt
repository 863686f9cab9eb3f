-- A choice that meets the literals and the hints meets the literals.
use Rattle.std.proofs.Common.{sym, ◌∙◌, subst}
use Rattle.am_first_sets.specs.PossibleChoices.{IsPossible}
use Rattle.am_first_sets.specs.Literals.{IsMet}
use Rattle.am_first_sets.proofs.ReasonLemmas.{met_if}
use Rattle.am_route_alerts.proofs.ImpliedLemmas.{met_in_front}
use Rattle.am_route_alerts.proofs.implied.is_met_near.Goals as goal

pub returns : goal.returns
returns c = record {
  met = λ yes.
      let Is = IsPossible c.args.possible.now in
      met_in_front Is c.args.literals.now c.loop-hint.invariant.0
      (subst (IsMet Is) (c.as_slice.ensures.value ∙ c.loop-hint.invariant.1)
      (met_if Is c.as_slice.result.now c.in_ok-some_meeting.field-0
      c.in_ok-some_meeting.ensures.some (sym c.is_some.ensures ∙ yes)));
}
