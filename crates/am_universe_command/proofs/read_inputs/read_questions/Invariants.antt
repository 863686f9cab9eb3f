use Rattle.std.proofs.Common.{map, take}
use Rattle.am_config.specs.ConfigView.{config_view}
use Rattle.am_eval.specs.QuestionView.{question_view}
use Rattle.am_universe_command.specs.UniverseInputs.{ReadsQuestions}
use Rattle.am_universe_command.proofs.read_inputs.read_questions.Given as goal

-- the texts so far are read as the questions so far
abbrev pub invariant-loop-i : goal.invariant-loop-i
invariant-loop-i l =
    ReadsQuestions (config_view l.config) (take l.i (map (λ text. text.now) l.texts))
    (map question_view l.questions.items)
