-- The verdict of a question agrees with its truth at each completion, and decides it at a whole
-- choice. So does the verdict that the choice is an answer, which makes it a judge.
use Rattle.std.proofs.Common.{◌≡◌, ℕ, Bool, true, false, not, ◌&&◌, ◌||◌, List, [], ◌∷◌, map}
use Rattle.std.proofs.Common.{cond, inl, inr, refl, ap, sym, ◌∙◌, subst}
use Rattle.std.proofs.lemmas.Bool.{cases_Bool, and_left, and_right, or_left, or_right}
use Rattle.std.specs.Prelude.{IsTrue}
use Rattle.std.specs.List.{list_all, list_any}
use Rattle.am_universe.specs.Universe.{Label, IsUniverse, sizes}
use Rattle.am_universe.specs.Choice.{admits, IsWhole}
use Rattle.am_universe.specs.Completions.{completions}
use Rattle.am_universe.specs.LabelSet.{label_set_of}
use Rattle.am_universe.proofs.ListLemmas.{IsIn, AllByRecursion-at, AllByRecursion-each}
use Rattle.am_labels.specs.Matcher.{Matcher, all_hold}
use Rattle.am_labels.specs.Space.{Space, is_possible_choice}
use Rattle.am_search.specs.declared.verdict.Verdict.{Verdict}
use Rattle.am_search.specs.declared.verdict.Verdict.TheVariants.{Yes, No, Open}
use Rattle.am_search.specs.Judge.{AreSizes, IsJudge, is_yes}
use Rattle.am_search.proofs.TokenTexts.{sizes_of_universe}
use Rattle.am_search.proofs.Walks.{completion_whole}
use Rattle.am_judged_lists.specs.Verdicts.{matches_at, verdict_over, verdict_of_list}
use Rattle.am_judged_lists.proofs.VerdictLemmas.{yes_exactly, no_exactly, list_says}
use Rattle.am_eval.specs.Tree.{Part, Not, And, Or}
use Rattle.am_eval.specs.Question.{Question, satisfies_at, is_answer}
use Rattle.am_eval.specs.World.{World}
use Rattle.am_eval.specs.Conditions.{Literal, not_matching, literal_holds, conditions_of}
use Rattle.am_eval.proofs.ConditionLaws.{exactly}
use Rattle.am_plans.specs.Verdicts.{kleene_not, kleene_and, kleene_or, all_of, any_of}
use Rattle.am_plans.specs.Verdicts.{verdict_of_literal, verdict_of_simple, verdict_of_question}
use Rattle.am_plans.specs.Verdicts.{verdict_of_space, verdict_of}

-- ---- A verdict agrees with a truth: `Yes` with true, `No` with false, and `Open` where it may be.

abbrev pub Agrees : Type 0 → Verdict → Bool → Type 0
Agrees May_be Yes b = b ≡ true
Agrees May_be No b = b ≡ false
Agrees May_be Open b = May_be

-- each list is not matched exactly if no list is matched
pub none_matches : {X : Type 0} (matches : X → Bool) (xs : List X)
    → list_all (λ x. not (matches x)) xs ≡ not (list_any matches xs)
none_matches matches [] = refl
none_matches matches (x ∷ xs) = elim (cases_Bool (matches x)) [
  | inl e ↦ rw e refl
  | inr e ↦ rw e (none_matches matches xs)
]

module _ (May_be : Type 0) where
  not_agrees : (v : Verdict) (b : Bool) → Agrees May_be v b → Agrees May_be (kleene_not v) (not b)
  not_agrees Yes b h = ap not h
  not_agrees No b h = ap not h
  not_agrees Open b h = h

  and_agrees : (v w : Verdict) (a b : Bool) → Agrees May_be v a → Agrees May_be w b
      → Agrees May_be (kleene_and v w) (a && b)
  and_agrees Yes w a b h k = subst (λ x. Agrees May_be w (x && b)) (sym h) k
  and_agrees No w a b h k = and_left a b h
  and_agrees Open Yes a b h k = h
  and_agrees Open No a b h k = and_right a b k
  and_agrees Open Open a b h k = h

  or_agrees : (v w : Verdict) (a b : Bool) → Agrees May_be v a → Agrees May_be w b
      → Agrees May_be (kleene_or v w) (a || b)
  or_agrees Yes w a b h k = or_left a b h
  or_agrees No w a b h k = subst (λ x. Agrees May_be w (x || b)) (sym h) k
  or_agrees Open Yes a b h k = or_right a b k
  or_agrees Open No a b h k = h
  or_agrees Open Open a b h k = h

  -- the `and` of a list of items, and the `or` of such a list
  module _ {X : Type 0} (verdict : X → Verdict) (truth : X → Bool)
      (each : (x : X) → Agrees May_be (verdict x) (truth x)) where
    all_agrees : (xs : List X) → Agrees May_be (all_of (map verdict xs)) (list_all truth xs)
    all_agrees [] = refl
    all_agrees (x ∷ xs) =
        and_agrees (verdict x) (all_of (map verdict xs)) (truth x) (list_all truth xs) (each x)
        (all_agrees xs)

    any_agrees : (xs : List X) → Agrees May_be (any_of (map verdict xs)) (list_any truth xs)
    any_agrees [] = refl
    any_agrees (x ∷ xs) =
        or_agrees (verdict x) (any_of (map verdict xs)) (truth x) (list_any truth xs) (each x)
        (any_agrees xs)

  -- if the verdict of each list at a prefix agrees with whether a choice matches the list
  module _ (u : List Label) (w : World) (prefix c : List ℕ)
      (lists : (ms : List Matcher)
      → Agrees May_be (verdict_of_list u ms prefix) (matches_at u ms c)) where
    literal_agrees : (l : Literal)
        → Agrees May_be (verdict_of_literal u prefix l) (literal_holds (label_set_of u c) l)
    literal_agrees l = elim (cases_Bool l.wanted) [
      | inl e ↦ rw e (lists l.matchers)
      | inr e ↦
          rw e (not_agrees (verdict_of_list u l.matchers prefix) (matches_at u l.matchers c)
          (lists l.matchers))
    ]

    question_agrees : (q : Question)
        → Agrees May_be (verdict_of_question u w q prefix) (satisfies_at u w q c)
    question_agrees (Part simple) =
        let holds = literal_holds (label_set_of u c) in
        subst (λ b. Agrees May_be (verdict_of_simple u w simple prefix) b)
        (sym (exactly w (label_set_of u c) simple))
        (any_agrees (λ way. all_of (map (verdict_of_literal u prefix) way)) (list_all holds)
        (all_agrees (verdict_of_literal u prefix) holds literal_agrees) (conditions_of w simple))
    question_agrees (Not q) =
        not_agrees (verdict_of_question u w q prefix) (satisfies_at u w q c) (question_agrees q)
    question_agrees (And q r) =
        and_agrees (verdict_of_question u w q prefix) (verdict_of_question u w r prefix)
        (satisfies_at u w q c) (satisfies_at u w r c) (question_agrees q) (question_agrees r)
    question_agrees (Or q r) =
        or_agrees (verdict_of_question u w q prefix) (verdict_of_question u w r prefix)
        (satisfies_at u w q c) (satisfies_at u w r c) (question_agrees q) (question_agrees r)

    answer_agrees : (q : Question) (impossible : List (List Matcher))
        → (let s : Space = record { labels = u; impossible = impossible } in
        Agrees May_be (verdict_of s w q prefix) (is_answer s w q c))
    answer_agrees q impossible =
        let s : Space = record { labels = u; impossible = impossible } in
        let none = λ (ms : List Matcher). not (all_hold (label_set_of u c) ms) in
        and_agrees (verdict_of_question u w q prefix) (verdict_of_space s prefix)
        (satisfies_at u w q c) (is_possible_choice s c) (question_agrees q)
        (subst (λ b. Agrees May_be (verdict_of_space s prefix) b)
        (none_matches (all_hold (label_set_of u c)) impossible)
        (all_agrees (λ ms. verdict_of_literal u prefix (not_matching ms)) none
        (λ ms. literal_agrees (not_matching ms)) impossible))

-- ---- At a completion of a prefix.

list_agrees : (test : List ℕ → Bool) (cs : List (List ℕ)) (c : List ℕ) → IsIn cs c
    → (v : Verdict) → verdict_over test cs ≡ v → Agrees (Unit {0}) v (test c)
list_agrees test cs c there Yes e =
    AllByRecursion-at (λ d. test d ≡ true) cs c ((yes_exactly test cs).0 e) there
list_agrees test cs c there No e =
    AllByRecursion-at (λ d. test d ≡ false) cs c ((no_exactly test cs c there).0 e) there
list_agrees test cs c there Open e = tt

-- ---- At a whole choice, where the verdict of each list says its truth.

never_agrees : (b : Bool) (v : Verdict) → v ≡ cond b Yes No → Agrees ⊥ v b
never_agrees true v e = rw e refl
never_agrees false v e = rw e refl

says : (v : Verdict) (b : Bool) → Agrees ⊥ v b → v ≡ cond b Yes No
says Yes b h = rw h refl
says No b h = rw h refl
says Open b h = absurd h

yes_of : (b : Bool) → is_yes (cond b Yes No) ≡ b
yes_of true = refl
yes_of false = refl

lists_agree : (u : List Label) (c : List ℕ) → IsWhole (sizes u) c → (ms : List Matcher)
    → Agrees ⊥ (verdict_of_list u ms c) (matches_at u ms c)
lists_agree u c whole ms =
    never_agrees (matches_at u ms c) (verdict_of_list u ms c) (list_says u ms c whole)

-- ---- The judge of a question over a space.

module _ (s : Space) (w : World) (q : Question) where
  at_whole : (c : List ℕ) → IsWhole (sizes s.labels) c
      → Agrees ⊥ (verdict_of s w q c) (is_answer s w q c)
  at_whole c whole =
      answer_agrees ⊥ s.labels w c c (lists_agree s.labels c whole) q s.impossible

  pub verdict_says : (c : List ℕ) → IsWhole (sizes s.labels) c
      → verdict_of s w q c ≡ cond (is_answer s w q c) Yes No
  verdict_says c whole = says (verdict_of s w q c) (is_answer s w q c) (at_whole c whole)

  pub verdict_says_truth : (c : List ℕ) → IsWhole (sizes s.labels) c
      → is_yes (verdict_of s w q c) ≡ is_answer s w q c
  verdict_says_truth c whole = ap is_yes (verdict_says c whole) ∙ yes_of (is_answer s w q c)

  -- with the truths and verdicts of the question
  module _ (truth : List ℕ → Bool) (verdict : List ℕ → Verdict)
      (truths : (c : List ℕ) → IsWhole (sizes s.labels) c → truth c ≡ is_answer s w q c)
      (verdicts : (prefix : List ℕ) → IsTrue (admits (sizes s.labels) prefix)
      → verdict prefix ≡ verdict_of s w q prefix) where
    completion_agrees : (prefix c : List ℕ) → IsTrue (admits (sizes s.labels) prefix)
        → IsIn (completions (sizes s.labels) prefix) c → Agrees (Unit {0}) (verdict prefix) (truth c)
    completion_agrees prefix c a there =
        rw (verdicts prefix a, truths c (completion_whole (sizes s.labels) prefix c there).0)
        (answer_agrees (Unit {0}) s.labels w prefix c
        (λ ms. list_agrees (matches_at s.labels ms) (completions (sizes s.labels) prefix) c there
        (verdict_of_list s.labels ms prefix) refl) q s.impossible)

    pub judges : AreSizes (sizes s.labels) → IsJudge (sizes s.labels) truth verdict
    judges are = record {
      limits = are;
      yes = λ prefix a e.
          AllByRecursion-each (λ c. IsTrue (truth c)) (completions (sizes s.labels) prefix)
          (λ c there. subst (λ v. Agrees (Unit {0}) v (truth c)) e
          (completion_agrees prefix c a there));
      no = λ prefix a e.
          AllByRecursion-each (λ c. truth c ≡ false) (completions (sizes s.labels) prefix)
          (λ c there. subst (λ v. Agrees (Unit {0}) v (truth c)) e
          (completion_agrees prefix c a there));
      whole = λ c whole e.
          subst (λ v. Agrees ⊥ v (is_answer s w q c)) (sym (verdicts c whole.0) ∙ e)
          (at_whole c whole);
    }

  pub question_judges : IsUniverse s.labels
      → IsJudge (sizes s.labels) (is_answer s w q) (verdict_of s w q)
  question_judges is =
      judges (is_answer s w q) (verdict_of s w q) (λ c whole. refl) (λ prefix a. refl)
      (sizes_of_universe s.labels is)
