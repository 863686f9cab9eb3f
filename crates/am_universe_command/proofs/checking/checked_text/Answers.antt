-- What the text says is what was found.
use Rattle.std.proofs.Common.{ap, map, ◌∙◌}
use Rattle.am_eval.specs.QuestionView.{question_view}
use Rattle.am_complete.specs.AskedLabel.{IsAskedOf}
use Rattle.am_report_texts.specs.Line.{report_text}
use Rattle.am_universe_command.specs.Universes.{deciding_matchers}
use Rattle.am_universe_command.proofs.AskedFacts.{lists_decide}
use Rattle.am_universe_command.proofs.CheckFacts.{none_told}
use Rattle.am_universe_command.proofs.checking.checked_text.Goals as goal
use Rattle.am_universe_command.proofs.checking.checked_text.Goals.{After-as_slice-2}

-- the labels are those that the deciding matchers ask about
asked_as : (c : After-as_slice-2) → IsAskedOf c.as_slice-2.result.now
    (deciding_matchers c.args.routes c.args.read.now.world
    (map question_view c.args.read.now.questions.items) c.args.read.now.space.impossible)
asked_as c = rw (c.as_slice-2.ensures.value) c.in_ok-asked.ensures.asked

pub label_states-requires : goal.label_states-requires
label_states-requires c =
    let read = c.args.read.now in
    let questions = map question_view read.questions.items in (
      deciding_matchers c.args.routes read.world questions read.space.impossible,
      asked_as (goal.at.label_states-requires c).After-as_slice-2,
      lists_decide c.args.routes read.world questions read.space.impossible,
    )

pub returns : goal.returns
returns c =
    let read = c.args.read.now in
    let s = read.space in
    let w = read.world in
    let questions = map question_view read.questions.items in
    let routes = c.args.routes in
    let states = c.in_ok-states.states.items in
    let all_impossible = c.is_none-all_impossible.result in
    let told = c.in_ok-states.ensures in
    let empty = c.in_ok-first_possible.ensures.none in
    let ms = deciding_matchers routes w questions s.impossible in
    let of = asked_as (goal.at.returns c).After-as_slice-2 in
    let labels = c.as_slice-2.ensures.value ∙ c.in_ok-asked.ensures.labels in
    let none = none_told c.in_ok-first_possible.field-0 all_impossible
    c.is_none-all_impossible.ensures in
    record {
      states = states;
      names = rw labels at told.names;
      each = rw labels at (told.each ms of);
      unseen = told.unseen;
      complete = told.complete ms of;
      all_impossible = all_impossible;
      impossible = (λ so. empty.0 (none.1 so), λ no_choice. none.0 (empty.1 no_choice));
      text = c.in_ok-text.ensures.written ∙ ap report_text
          (rw (c.as_slice-3.ensures.value, c.universe.ensures.labels) at c.in_ok-report.ensures.report);
    }
