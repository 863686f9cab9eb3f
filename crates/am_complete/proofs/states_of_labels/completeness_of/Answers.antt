-- The label is the one of that name; without matchers nothing asks about it.
use Rattle.std.proofs.Common.{◌≡◌, option_map, sym, ap, ◌∙◌, subst}
use Rattle.std.proofs.lemmas.Result.{IfOk-weaker}
use Rattle.am_universe.proofs.ListLemmas.{IsIn}
use Rattle.am_complete.specs.Complete.{about, AreAmong}
use Rattle.am_complete.proofs.AmongMatchers.{among_none}
use Rattle.am_complete.proofs.AskedLabels.{asked_for, not_asked, on_name}
use Rattle.am_complete.proofs.LabelStates.{found_is_so, none_counted, some_counted}
use Rattle.am_complete.proofs.LabelTexts.{found_in}
use Rattle.am_complete.proofs.states_of_labels.completeness_of.Goals as goal
use Rattle.am_complete.proofs.states_of_labels.completeness_of.Goals.{In-Some}

there : (c : In-Some) → IsIn c.args.asked.now c.in-Some.label.now
    × (c.in-Some.label.now.name ≡ c.args.name.now)
there c =
    found_in (λ l. l.name) c.args.name.now c.args.asked.now c.in-Some.label.now
    (sym c.label_of.ensures ∙ ap (option_map (λ l. l.now)) c.in-Some.is)

pub returns-in_default : goal.returns-in_default
returns-in_default c = λ ms asks some.
    not_asked c.args.asked.now ms c.args.name.now asks
    (sym c.label_of.ensures ∙ ap (option_map (λ l. l.now)) c.in_default.is) some

pub returns-then-is_empty : goal.returns-then-is_empty
returns-then-is_empty c = λ ms asks.
    let l = c.in-Some.label.now in
    let found = there (goal.at.returns-then-is_empty c).In-Some in
    let none = sym c.matchers.ensures.matchers
    ∙ none_counted (λ m. m.now) c.matchers.result.now (sym c.is_empty.ensures ∙ c.if-is_empty.true) in
    rw (← found.1) (λ some.
    among_none (about l.name ms)
    (subst (AreAmong (about l.name ms)) none
    (on_name c.args.asked.now ms l asks found.0 some).back))

pub completeness_at-requires : goal.completeness_at-requires
completeness_at-requires c = λ some.
    asked_for c.args.space.now.impossible c.args.asked.now c.requires.0 c.in-Some.label.now
    c.requires.1 c.requires.2 (there (goal.at.completeness_at-requires c).In-Some).0 some

pub returns : goal.returns
returns c =
    let found = there (goal.at.returns c).In-Some in
    IfOk-weaker c.completeness_at.result _ _ (λ state is ms asks.
    rw (← found.1) (λ some.
    found_is_so c.args.alphabet c.args.space.now c.args.asked.now ms c.in-Some.label.now state asks
    found.0 some
    (λ none. some_counted (λ m. m.now) c.matchers.result.now
    (sym c.is_empty.ensures ∙ c.if-is_empty.false) (c.matchers.ensures.matchers ∙ none)) is))
    c.completeness_at.ensures
