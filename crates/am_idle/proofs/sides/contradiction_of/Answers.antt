use Rattle.std.proofs.Common.{◌-◌, sym, ap, ◌∙◌, arith, length, drop, length-drop}
use Rattle.std.proofs.lemmas.List.{take_all}
use Rattle.am_first_sets.specs.PossibleChoices.{IsPossible}
use Rattle.am_first_sets.proofs.ReasonLemmas.{met_if, unmet_if}
use Rattle.am_idle.specs.RuleChoices.{named_of}
use Rattle.am_idle.proofs.sides.contradiction_of.Goals as goal

pub returns-then-is_some-clause-none : goal.returns-then-is_some-clause-none
returns-then-is_some-clause-none c =
    met_if (IsPossible c.args.choices.now) c.args.literals.now c.in_ok-some_meeting.field-0
    c.in_ok-some_meeting.ensures.some (sym c.is_some.ensures ∙ c.if-is_some.true)

pub leave_out-requires : goal.leave_out-requires
leave_out-requires c = record {
  first = λ i k at low. absurd (omega (arith, low));
  enough = unmet_if (IsPossible c.args.choices.now) c.args.literals.now
      c.in_ok-some_meeting.field-0 c.in_ok-some_meeting.ensures.none
      (sym c.is_some.ensures ∙ c.if-is_some.false);
}

pub returns-clause-some : goal.returns-clause-some
returns-clause-some c =
    let ks = c.leave_out.new.candidates in
    let n = c.args.sources in (
      ks,
      c.leave_out.ensures.same,
      c.in_ok-leave_out.ensures.reason,
      (
        c.in_ok-source.ensures,
        c.in_ok-target.ensures
            ∙ ap named_of
            (take_all (length ks - n) (drop n ks) (omega (arith, length-drop n ks))),
      ),
    )
