-- What clauses read of a plan: whether choices are answers by its cubes, and its verdicts.
use Rattle.std.specs.Prelude.{ℕ, List, Bool, not, ◌&&◌, if◌then◌else◌}
use Rattle.std.specs.List.{list_any}
use Rattle.am_universe.specs.Universe.{Label, sizes}
use Rattle.am_search.specs.declared.verdict.Verdict.{Verdict}
use Rattle.am_search.specs.declared.verdict.Verdict.TheVariants.{Yes, No, Open}
use Rattle.am_search.specs.Judge.{is_yes, IsJudge}
use Rattle.am_judged_lists.specs.Cube.{MaskedLabels, verdict_at}
use Rattle.am_judged_lists.specs.declared.certainty.Certainty.{Certainty}
use Rattle.am_judged_lists.specs.declared.certainty.Certainty.TheVariants.{May, Must}
use Rattle.am_judged_lists.specs.Certainty.{passes, other}
use Rattle.am_plans.specs.declared.question_lists.QuestionLists.{QuestionLists}
use Rattle.am_plans.specs.declared.world_lists.WorldLists.{WorldLists}
use Rattle.am_plans.specs.QuestionByLists.{question_by}
use Rattle.am_plans.specs.WorldByLists.{world_seen}

-- Whether a question is true, by its lists and those of the world.
abbrev pub truth_by : WorldLists → QuestionLists → List ℕ → Certainty → Bool
truth_by world question prefix m = question_by prefix (world_seen prefix world) question m

-- Whether a label set is possible, by the cubes of the impossible lists: this is certain if no cube
-- may match, and not excluded if no cube must match.
abbrev pub possible_by : List MaskedLabels → List ℕ → Certainty → Bool
possible_by impossible prefix m =
    not (list_any (λ cube. passes (other m) (verdict_at cube prefix)) impossible)

-- Whether a choice is an answer, by cubes: the question is true, and the label set is possible.
abbrev pub is_answer_by : WorldLists → QuestionLists → List MaskedLabels → List ℕ → Certainty → Bool
is_answer_by world question impossible prefix m =
    truth_by world question prefix m && possible_by impossible prefix m

-- `verdict_of_truths`: the verdict, if it is known whether something is not excluded, and whether
-- it is certain. `judged_verdict`: the verdict that a choice is an answer, by cubes.
abbrev pub verdict_of_truths : Bool → Bool → Verdict
verdict_of_truths may must = if not may then No else if must then Yes else Open

abbrev pub judged_verdict : WorldLists → QuestionLists → List MaskedLabels → List ℕ → Verdict
judged_verdict world question impossible prefix =
    verdict_of_truths (is_answer_by world question impossible prefix May)
    (is_answer_by world question impossible prefix Must)

-- A whole choice is true if its verdict is `Yes`.
abbrev pub judged_truth : WorldLists → QuestionLists → List MaskedLabels → List ℕ → Bool
judged_truth world question impossible c = is_yes (judged_verdict world question impossible c)

-- These truths and verdicts meet the laws of a judge, over these labels.
abbrev pub IsJudgeIn : List Label → WorldLists → QuestionLists → List MaskedLabels → Type 0
IsJudgeIn u world question impossible =
    IsJudge (sizes u) (judged_truth world question impossible)
    (judged_verdict world question impossible)
