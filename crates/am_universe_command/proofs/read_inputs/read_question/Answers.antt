use Rattle.std.proofs.Common.{◌≢◌, arith, sym, subst, ◌∙◌}
use Rattle.am_universe.specs.declared.kind.Kind.{Kind}
use Rattle.am_universe.specs.declared.kind.Kind.TheVariants as kinds
use Rattle.am_config.specs.ConfigView.{config_view}
use Rattle.am_questions.specs.QuestionText.{QuestionRefusedFor}
use Rattle.am_questions.proofs.PartLemmas.{parts_unwritten}
use Rattle.am_universe_command.proofs.read_inputs.read_question.Goals as goal

pub returns-in-Err-clause-refused : goal.returns-in-Err-clause-refused
returns-in-Err-clause-refused c = λ remembered.
    let kind = c.fault_of_question.ensures.kind remembered in
    let given : c.in-Err.kind ≢ kinds.Memory = λ e. remembered (kind ∙ e) in
    let told = c.in-Err.ensures.refused given in
    let unwritten : c.in-Err.kind ≢ kinds.Write = grind (arith, told, parts_unwritten) in (
      c.fault_of_question.ensures.place remembered unwritten,
      (
        subst (λ (k : Kind). QuestionRefusedFor (config_view c.args.config.now) c.args.text.now k)
            (sym kind) told,
        c.fault_of_question.ensures.pointer remembered unwritten,
      ),
    )
