-- The fault of the text is at `Question`.
use Rattle.std.proofs.Common.{arith, ◌≢◌, ◌∙◌, sym, subst}
use Rattle.am_universe.specs.declared.kind.Kind.{Kind}
use Rattle.am_universe.specs.declared.kind.Kind.TheVariants as kinds
use Rattle.am_config.specs.ConfigView.{config_view}
use Rattle.am_eval.specs.QuestionView.{question_view}
use Rattle.am_questions.specs.QuestionText.{ReadsQuestion, QuestionRefusedFor}
use Rattle.am_questions.proofs.PartLemmas.{parts_unwritten}
use Rattle.am_alerts.proofs.report.read_question.Goals as goal

pub returns-in-Ok-clause-reads : goal.returns-in-Ok-clause-reads
returns-in-Ok-clause-reads c =
    subst (λ text. ReadsQuestion (config_view c.args.config.now) text
    (question_view c.in-Ok.question)) c.asked_text.ensures c.in-Ok.ensures.read

pub returns-in-Err-clause-refused : goal.returns-in-Err-clause-refused
returns-in-Err-clause-refused c = λ remembered.
    let config = config_view c.args.config.now in
    let given : c.in-Err.kind ≢ kinds.Memory = λ e. remembered (c.at.ensures.kind ∙ e) in
    let told = c.in-Err.ensures.refused given in
    let refused = subst (λ text. QuestionRefusedFor config text c.at.result.kind) c.asked_text.ensures
    (subst (λ (k : Kind). QuestionRefusedFor config c.asked_text.result.now k)
    (sym c.at.ensures.kind) told) in
    let unwritten : c.in-Err.kind ≢ kinds.Write = grind (arith, told, parts_unwritten) in
    (c.at.ensures.place given unwritten, (refused, c.at.ensures.pointer))
