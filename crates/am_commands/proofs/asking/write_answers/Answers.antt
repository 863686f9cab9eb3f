-- What is written is the page of the search for the answers.
use Rattle.std.proofs.Common.{◌≡◌, refl, ap, ◌∙◌}
use Rattle.am_universe.specs.Universe.{sizes}
use Rattle.am_labels.specs.Space.{Space}
use Rattle.am_eval.specs.QuestionView.{question_view}
use Rattle.am_files.proofs.Promises.{written, told_as}
use Rattle.am_search.specs.AnswersView.{answers_page}
use Rattle.am_search.specs.PageText.{page_text}
use Rattle.am_search.proofs.WalkBudgets.{page_is}
use Rattle.am_plans.specs.PlanWords.{plan_sizes, plan_verdict}
use Rattle.am_commands.specs.AskOutcome.{page_of_inputs, page_promise}
use Rattle.am_commands.proofs.AskedPages.{page_of_plan}
use Rattle.am_commands.proofs.asking.write_answers.Goals as goal

pub returns : goal.returns
returns g c =
    let read = c.args.accepted.now in
    let question = question_view read.question in
    let judge = c.in-Ok.judge in
    let limit = c.args.limit in
    let steps = c.args.steps in
    let answers = c.from-answers in
    let page = page_of_inputs read limit steps in
    let wrote = c.write_page-written in
    let searched =
    page_is answers.result judge read.start limit steps answers.ensures.judge answers.ensures.start
    answers.ensures.budget answers.ensures.left_under in
    let asked =
    page_of_plan read.space read.world question (plan_sizes judge) (plan_verdict judge) read.start
    limit steps (ap (λ (s : Space). sizes s.labels) c.in-Ok.ensures.space) c.in-Ok.ensures.verdict in
    let same : answers_page answers.result limit ≡ page = searched ∙ asked in
    let text =
    ap (λ u. page_text u read.fingerprint (answers_page answers.result limit))
    (c.in-Ok-of.ensures.universe ∙ c.universe.ensures.labels)
    ∙ ap (page_text read.space.labels read.fingerprint) same in
    record {
      kept = written (page_promise read limit steps) page.trailer _ wrote.result
          c.answer_of_write.result (refl, text)
          (told_as wrote.result (ap (λ p. p.trailer) same) wrote.ensures.trailer)
          wrote.ensures.written c.answer_of_write.ensures.answer;
    }
