-- What a question is seen as, by its outermost level.
use Rattle.std.proofs.Common.{◌≡◌, ap, sym, ◌∙◌}
use Rattle.am_eval.specs.declared.question.Question as kept
use Rattle.am_eval.specs.declared.question.Question.{roll-Question, map-Question, fold-roll-Question}
use Rattle.am_eval.specs.declared.question.Question.TheOpen.{Question-F}
use Rattle.am_eval.specs.Question.{Question}
use Rattle.am_eval.specs.QuestionView.{view_step, question_view}

pub seen_by : {q : kept.Question} (level : Question-F kept.Question) → roll-Question level ≡ q
    → question_view q ≡ view_step (map-Question kept.Question Question question_view level)
seen_by level is = ap question_view (sym is) ∙ fold-roll-Question Question view_step level
