-- Whether a question is true, by its lists and by what is seen of the world: whether that is not
-- excluded, and whether it is certain.
use Rattle.std.specs.Prelude.{◌≡◌, ℕ, List, Bool, not, ◌&&◌, ◌||◌, IsTrue}
use Rattle.am_universe.specs.Universe.{Label, sizes}
use Rattle.am_universe.specs.Choice.{admits}
use Rattle.am_config.specs.declared.routes.RouteList.{RouteList}
use Rattle.am_eval.specs.Question.{Question}
use Rattle.am_eval.specs.World.{World}
use Rattle.am_judged_lists.specs.Cube.{verdict_at}
use Rattle.am_judged_lists.specs.declared.certainty.Certainty.{Certainty}
use Rattle.am_plans.specs.declared.question_lists.QuestionLists.{QuestionLists, fold-QuestionLists}
use Rattle.am_plans.specs.declared.question_lists.QuestionLists.TheOpen.{QuestionLists-F}
use Rattle.am_judged_lists.specs.Certainty.{passes, other}
use Rattle.am_plans.specs.RouteGroups.{AreRoutesOf}
use Rattle.am_plans.specs.Verdicts.{verdict_of_question}
use Rattle.am_plans.specs.WorldByLists.{WorldSeen, has_seen, Serves}

-- `question_step`: one level of a question, if the truth of its parts is known. `question_by`: the
-- whole question.
abbrev pub question_step : List ℕ → WorldSeen → QuestionLists-F (Certainty → Bool) → Certainty
    → Bool
question_step prefix seen (QuestionLists-F.Is property) m = has_seen seen m property
question_step prefix seen (QuestionLists-F.Routes reach routes) m = seen.reaches m reach routes
question_step prefix seen (QuestionLists-F.Braces list) m = passes m (verdict_at list prefix)
question_step prefix seen (QuestionLists-F.Not q) m = not (q.value (other m))
question_step prefix seen (QuestionLists-F.And q r) m = q.value m && r.value m
question_step prefix seen (QuestionLists-F.Or q r) m = q.value m || r.value m

abbrev pub question_by : List ℕ → WorldSeen → QuestionLists → Certainty → Bool
question_by prefix seen = fold-QuestionLists (Certainty → Bool) (question_step prefix seen)

-- The lists are those of a question about a world with these routes: if what is seen of the world
-- is what its verdicts say, as far as the question asks about it, then they say what the verdict of
-- the question says.
abbrev pub AreListsOf : List Label → RouteList → Question → QuestionLists → Type 0
AreListsOf u routes q lists =
    (w : World) (prefix : List ℕ) (seen : WorldSeen) (m : Certainty)
    → AreRoutesOf w.config routes → IsTrue (admits (sizes u) prefix) → Serves u w prefix seen q
    → question_by prefix seen lists m ≡ passes m (verdict_of_question u w q prefix)
