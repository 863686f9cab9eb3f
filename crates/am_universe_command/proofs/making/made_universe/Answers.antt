-- What is made for the labels that are asked about, and the faults.
use Rattle.std.proofs.Common.{◌≡◌, ◌≢◌, inl, inr, map, string_bytes, ◌∙◌, subst}
use Rattle.am_eval.specs.QuestionView.{question_view}
use Rattle.am_json.specs.Reading.{refusal_of}
use Rattle.am_universe.specs.declared.kind.Kind.TheVariants as kinds
use Rattle.am_files.proofs.FirstFaults.{handed_on}
use Rattle.am_complete.specs.AskedLabel.{IsAskedOf}
use Rattle.am_complete.specs.declared.allowed_names.AllowedNames.TheVariants as allowed_are
use Rattle.am_universe_command.specs.Universes.{deciding_matchers, deciding_labels}
use Rattle.am_universe_command.specs.Universes.{IsMakingRefusal}
use Rattle.am_asked.specs.Made.{IsMadeBeside}
use Rattle.am_universe_command.proofs.AskedFacts.{lists_decide}
use Rattle.am_universe_command.proofs.making.made_universe.Goals as goal
use Rattle.am_universe_command.proofs.making.made_universe.Goals.{After-as_slice-labels}

-- the labels are those that the deciding matchers ask about
is_asked : (c : After-as_slice-labels) → IsAskedOf c.as_slice-labels.result.now
    (deciding_matchers c.args.form.routes c.args.read.now.world
    (map question_view c.args.read.now.questions.items) c.args.read.now.space.impossible)
is_asked c = rw (c.as_slice-labels.ensures.value) c.in-Ok-labels_asked.ensures.asked

are_asked : (c : After-as_slice-labels) → c.as_slice-labels.result.now
    ≡ deciding_labels c.args.form.routes c.args.read.now.world
    (map question_view c.args.read.now.questions.items) c.args.read.now.space.impossible
are_asked c = c.as_slice-labels.ensures.value ∙ c.in-Ok-labels_asked.ensures.labels

pub universe_for-requires : goal.universe_for-requires
universe_for-requires c =
    let read = c.args.read.now in
    let questions = map question_view read.questions.items in (
      deciding_matchers c.args.form.routes read.world questions read.space.impossible,
      is_asked (goal.at.universe_for-requires c).After-as_slice-labels,
      lists_decide c.args.form.routes read.world questions read.space.impossible,
    )

pub returns-in_err-found-clause-refused : goal.returns-in_err-found-clause-refused
returns-in_err-found-clause-refused c =
    let read = c.args.read.now in
    let at = (goal.at.returns-in_err-found-clause-refused c).After-as_slice-labels in
    handed_on (λ f. f.kind ≢ kinds.Memory → IsMakingRefusal c.args.form read.space
    (map string_bytes read.texts.items) read.world (map question_view read.questions.items) f.place
    (refusal_of f)) c.in_err-found.field-0.0
    c.from_residual.result c.from_residual.ensures.1
    (λ remembered. inl (rw (are_asked at) at (c.in_err-found.ensures.refused remembered)))

pub returns-clause-refused : goal.returns-clause-refused
returns-clause-refused c = λ remembered.
    let at = (goal.at.returns-clause-refused c).After-as_slice-labels in
    let told = rw c.first.ensures.first at (c.unproved_fault.ensures.refusal remembered) in
    let unproved = rw c.in-Err.is at c.in_ok-found.ensures.unproved in
    inr (inl (
      unproved.0,
      (c.in-Err.label.now, rw (are_asked at) at unproved.1, told.0, told.1),
    ))

pub returns-in-Ok-found-clause-made : goal.returns-in-Ok-found-clause-made
returns-in-Ok-found-clause-made c =
    let read = c.args.read.now in
    let at = (goal.at.returns-in-Ok-found-clause-made c).After-as_slice-labels in
    let questions = map question_view read.questions.items in
    let ms = deciding_matchers c.args.form.routes read.world questions read.space.impossible in
    subst (λ alerts. IsMadeBeside c.args.form.alphabet allowed_are.OfFiles c.args.form.open read.space
    (deciding_labels c.args.form.routes read.world questions read.space.impossible) alerts ms
    c.in-Ok-found.universe) c.alerts.ensures.alerts
    (rw (are_asked at) at ((rw c.in-Ok-found.is at c.in_ok-found.ensures.made) ms (is_asked at)))
