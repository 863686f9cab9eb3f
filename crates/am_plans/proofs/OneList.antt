-- The judge of a question that is one list of matchers is exact, if nothing is impossible.
use Rattle.std.proofs.Common.{◌≡◌, ℕ, List, [], map, not, ◌&&◌, ap}
use Rattle.std.proofs.Common.{sym, ◌∙◌, refl}
use Rattle.std.specs.Prelude.{IsTrue}
use Rattle.std.specs.List.{list_any}
use Rattle.am_labels.specs.Space.{Space, is_possible}
use Rattle.am_universe.specs.Universe.{sizes}
use Rattle.am_universe.specs.Choice.{admits}
use Rattle.am_universe.specs.Completions.{completions}
use Rattle.am_labels.specs.Matcher.{Matcher}
use Rattle.am_universe.specs.LabelSet.{label_set_of}
use Rattle.am_search.specs.declared.verdict.Verdict.{Verdict}
use Rattle.am_search.specs.declared.verdict.Verdict.TheVariants.{Yes, No, Open}
use Rattle.am_search.specs.Judge.{AreSizes}
use Rattle.am_search.specs.ExactJudge.{IsExactJudge}
use Rattle.am_judged_lists.specs.Verdicts.{matches_at, verdict_of_list}
use Rattle.am_judged_lists.proofs.VerdictLemmas.{open_exactly}
use Rattle.am_eval.specs.Tree.{Part}
use Rattle.am_eval.specs.Question.{Braces, is_answer}
use Rattle.am_eval.specs.World.{World}
use Rattle.am_eval.specs.Conditions.{not_matching}
use Rattle.am_plans.specs.Verdicts.{kleene_and, kleene_or, all_of, verdict_of_literal}
use Rattle.am_plans.specs.Verdicts.{verdict_of_question, verdict_of}
use Rattle.am_judged_lists.proofs.ListLemmas.{and_true}
use Rattle.am_plans.proofs.Soundness.{judges}

-- the `or` of one way, which is the `and` of one literal, and `Yes` for being possible
one_way : (v : Verdict) → kleene_and (kleene_or (kleene_and v Yes) No) Yes ≡ v
one_way Yes = refl
one_way No = refl
one_way Open = refl

-- with the verdicts of the question at each prefix that the space admits
module _ (s : Space) (w : World) (ms : List Matcher) (none : s.impossible ≡ [])
    (verdict : List ℕ → Verdict)
    (same : (prefix : List ℕ) → IsTrue (admits (sizes s.labels) prefix)
    → verdict prefix ≡ verdict_of s w (Part (Braces ms)) prefix) where
  verdict_of_its_list : (prefix : List ℕ) → IsTrue (admits (sizes s.labels) prefix)
      → verdict prefix ≡ verdict_of_list s.labels ms prefix
  verdict_of_its_list prefix a =
      same prefix a
      ∙ ap (λ lists. kleene_and (verdict_of_question s.labels w (Part (Braces ms)) prefix)
      (all_of (map (λ ms. verdict_of_literal s.labels prefix (not_matching ms)) lists))) none
      ∙ one_way (verdict_of_list s.labels ms prefix)

  answers_match : (c : List ℕ)
      → matches_at s.labels ms c ≡ is_answer s w (Part (Braces ms)) c
  answers_match c =
      sym (ap (λ lists. matches_at s.labels ms c && is_possible lists (label_set_of s.labels c)) none
      ∙ and_true (matches_at s.labels ms c))

  some_match_and_some_do_not : (prefix : List ℕ) → IsTrue (admits (sizes s.labels) prefix)
      → verdict prefix ≡ Open
      → IsTrue (list_any (is_answer s w (Part (Braces ms))) (completions (sizes s.labels) prefix))
      × IsTrue (list_any (λ c. not (is_answer s w (Part (Braces ms)) c))
      (completions (sizes s.labels) prefix))
  some_match_and_some_do_not prefix a e =
      let cs = completions (sizes s.labels) prefix in
      let matches = matches_at s.labels ms in
      let both = (open_exactly matches cs).0 (sym (verdict_of_its_list prefix a) ∙ e) in (
        sym (λ i. list_any (λ c. answers_match c i) cs) ∙ both.0,
        sym (λ i. list_any (λ c. not (answers_match c i)) cs) ∙ both.1,
      )

  pub is_exact_judge : AreSizes (sizes s.labels)
      → IsExactJudge (sizes s.labels) (is_answer s w (Part (Braces ms))) verdict
  is_exact_judge are = record {
    judge = judges s w (Part (Braces ms)) (is_answer s w (Part (Braces ms))) verdict
        (λ c whole. refl) same are;
    some = λ prefix a e. (some_match_and_some_do_not prefix a e).0;
    not_all = λ prefix a e. (some_match_and_some_do_not prefix a e).1;
  }
