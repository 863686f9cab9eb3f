-- A question with cubes is a judge over a space, if its truths are those of the verdict that a
-- choice is an answer.
use Rattle.std.proofs.Common.{◌≡◌, ℕ, List, not, ◌&&◌, map, ap, sym, ◌∙◌}
use Rattle.std.specs.Prelude.{IsTrue}
use Rattle.std.specs.List.{list_all, list_any}
use Rattle.am_universe.proofs.UniverseLemmas.{list_any-map}
use Rattle.am_universe.specs.Universe.{Label, sizes}
use Rattle.am_labels.specs.Matcher.{Matcher}
use Rattle.am_labels.specs.Space.{Space}
use Rattle.am_universe.specs.Choice.{admits, IsWhole}
use Rattle.am_search.specs.Judge.{AreSizes, is_yes}
use Rattle.am_judged_lists.specs.Cube.{MaskedLabels, verdict_at}
use Rattle.am_judged_lists.specs.Verdicts.{verdict_of_list}
use Rattle.am_eval.specs.World.{World}
use Rattle.am_eval.specs.Question.{Question, is_answer}
use Rattle.am_plans.specs.declared.question_lists.QuestionLists.{QuestionLists}
use Rattle.am_plans.specs.declared.world_lists.WorldLists.{WorldLists}
use Rattle.am_judged_lists.specs.declared.certainty.Certainty.{Certainty}
use Rattle.am_judged_lists.specs.declared.certainty.Certainty.TheVariants.{May, Must}
use Rattle.am_judged_lists.specs.Certainty.{passes, other}
use Rattle.am_plans.specs.Verdicts.{kleene_not, verdict_of_question, verdict_of_space, verdict_of}
use Rattle.am_plans.specs.PlanView.{truth_by, possible_by, is_answer_by, verdict_of_truths}
use Rattle.am_plans.specs.PlanView.{judged_verdict, judged_truth, IsJudgeIn}
use Rattle.am_plans.proofs.Kleene.{passes_not, passes_and, passes_each, from_passes}
use Rattle.am_plans.proofs.Soundness.{none_matches, verdict_says_truth, judges}

-- the lists are those of a question about a world, over these labels
abbrev pub IsQuestionOver : List Label → World → Question → WorldLists → QuestionLists → Type 0
IsQuestionOver u w q world question =
    (prefix : List ℕ) (m : Certainty) → IsTrue (admits (sizes u) prefix)
    → truth_by world question prefix m ≡ passes m (verdict_of_question u w q prefix)

-- the cubes are those of the impossible lists of a space
abbrev pub AreImpossible : Space → List MaskedLabels → Type 0
AreImpossible s impossible =
    (prefix : List ℕ) → IsTrue (admits (sizes s.labels) prefix)
    → map (λ cube. verdict_at cube prefix) impossible
    ≡ map (λ ms. verdict_of_list s.labels ms prefix) s.impossible

-- the cubes of the impossible lists say what is possible
says_possible : (s : Space) (cubes : List MaskedLabels) (prefix : List ℕ) (m : Certainty)
    → map (λ cube. verdict_at cube prefix) cubes
    ≡ map (λ ms. verdict_of_list s.labels ms prefix) s.impossible
    → possible_by cubes prefix m ≡ passes m (verdict_of_space s prefix)
says_possible s cubes prefix m same =
    let verdict = λ (ms : List Matcher). verdict_of_list s.labels ms prefix in
    ap not (sym (list_any-map (passes (other m)) (λ cube. verdict_at cube prefix) cubes)
    ∙ ap (list_any (passes (other m))) same
    ∙ list_any-map (passes (other m)) verdict s.impossible)
    ∙ sym (none_matches (λ ms. passes (other m) (verdict ms)) s.impossible)
    ∙ sym (λ i. list_all (λ ms. passes_not m (verdict ms) i) s.impossible)
    ∙ sym (passes_each m (λ ms. kleene_not (verdict ms)) s.impossible)

module _ (s : Space) (w : World) (q : Question) (world : WorldLists) (question : QuestionLists)
    (impossible : List MaskedLabels) (exact : IsQuestionOver s.labels w q world question)
    (cubes : AreImpossible s impossible) where
  passes_both : (prefix : List ℕ) (m : Certainty) → IsTrue (admits (sizes s.labels) prefix)
      → is_answer_by world question impossible prefix m ≡ passes m (verdict_of s w q prefix)
  passes_both prefix m a =
      (λ i. exact prefix m a i && says_possible s impossible prefix m (cubes prefix a) i)
      ∙ sym (passes_and m (verdict_of_question s.labels w q prefix) (verdict_of_space s prefix))

  pub verdict_is : (prefix : List ℕ) → IsTrue (admits (sizes s.labels) prefix)
      → judged_verdict world question impossible prefix ≡ verdict_of s w q prefix
  verdict_is prefix a =
      (λ i. verdict_of_truths (passes_both prefix May a i) (passes_both prefix Must a i))
      ∙ sym (from_passes (verdict_of s w q prefix))

  pub truth_is : (c : List ℕ) → IsWhole (sizes s.labels) c
      → judged_truth world question impossible c ≡ is_answer s w q c
  truth_is c whole = ap is_yes (verdict_is c whole.0) ∙ verdict_says_truth s w q c whole

  pub is_judge : AreSizes (sizes s.labels) → IsJudgeIn s.labels world question impossible
  is_judge =
      judges s w q (judged_truth world question impossible)
      (judged_verdict world question impossible) truth_is verdict_is
