use Rattle.std.proofs.Common.{◌≡◌, ◌<◌, ℕ, length, Some}
use Rattle.std.specs.Prelude.{slice_get}
use Rattle.am_universe.specs.LabelSet.{LabelMap}
use Rattle.am_eval.specs.Question.{satisfies}
use Rattle.am_eval.specs.QuestionView.{question_view}
use Rattle.am_alerts.specs.AlertLabels.{flag}
use Rattle.am_alerts.proofs.truth.truths_of_part.Given as goal

abbrev pub invariant-loop-i : goal.invariant-loop-i
invariant-loop-i l = record {
  count : length l.truths.items ≡ l.i;
  each : (k : ℕ) (s : LabelMap) → k < l.i → slice_get l.outcomes.alerts k ≡ Some s
      → flag l.truths.items k ≡ satisfies l.outcomes (question_view l.question) s;
}
