use Rattle.std.proofs.Common.{[], ◌∷◌, map, ap, ◌∙◌}
use Rattle.std.proofs.lemmas.List.{map-append}
use Rattle.am_universe.specs.declared.place.Place.TheVariants as places
use Rattle.am_json.specs.Reading.{refusal_of, IsRefusalAt}
use Rattle.am_config.specs.ConfigView.{config_view}
use Rattle.am_eval.specs.QuestionView.{question_view}
use Rattle.am_files.proofs.FirstFaults.{handed_on}
use Rattle.am_universe_command.specs.UniverseInputs.{QuestionsRefusedFor}
use Rattle.am_universe_command.proofs.ReadQuestions.{refused_next, read_more, text_there}
use Rattle.am_universe_command.proofs.read_inputs.read_questions.Goals as goal

pub returns-in_err-question-clause-refused : goal.returns-in_err-question-clause-refused
returns-in_err-question-clause-refused c =
    let config = config_view c.args.config.now in
    let texts = map (λ text. text.now) c.args.texts.now in
    let fault = c.in_err-question.field-0.0 in
    handed_on (IsRefusalAt places.Question (QuestionsRefusedFor config texts)) fault
    c.from_residual.result c.from_residual.ensures.1
    (λ remembered.
    let told = c.in_err-question.ensures.refused remembered in (
      told.0,
      refused_next config texts c.loop-i.i _ (map question_view c.loop-i.questions.items)
          (refusal_of fault)
          (text_there c.args.texts.now c.loop-i.i _ c.loop-i-test.true)
          c.loop-i.invariant told.1.0 told.1.1,
    ))

pub loop-i-preserved : goal.loop-i-preserved
loop-i-preserved c =
    read_more (config_view c.args.config.now) (map (λ text. text.now) c.args.texts.now)
    c.loop-i.i _ (map question_view c.loop-i.questions.items)
    _ (question_view c.in_ok-question.question)
    (text_there c.args.texts.now c.loop-i.i _ c.loop-i-test.true) c.loop-i.invariant
    c.in_ok-question.ensures.reads
    (ap (map question_view) c.in_ok-add_question.ensures.added
    ∙ map-append question_view c.loop-i.questions.items (c.in_ok-question.question ∷ []))
