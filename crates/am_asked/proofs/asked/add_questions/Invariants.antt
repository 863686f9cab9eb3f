use Rattle.std.proofs.Common.{drop, map}
use Rattle.std.specs.List.{flat_map, enumerate_from}
use Rattle.am_eval.specs.QuestionView.{question_view}
use Rattle.am_asked.specs.Placed.{placed_in_question, placed_in_questions}
use Rattle.am_complete.specs.AskedLabel.{with_asked}
use Rattle.am_asked.proofs.PlacedSteps.{IsOnTheWay}
use Rattle.am_asked.proofs.asked.add_questions.Given as goal

-- the labels so far, with the matchers that are left, give the labels of all matchers
abbrev pub invariant-loop-i : goal.invariant-loop-i
invariant-loop-i l =
    IsOnTheWay with_asked l.fn.gathering (placed_in_questions (map question_view l.questions)) l.gathering
    (flat_map placed_in_question (enumerate_from l.i (map question_view (drop l.i l.questions))))
