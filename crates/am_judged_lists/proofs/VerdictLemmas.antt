-- The verdict of a test over some choices.
use Rattle.std.proofs.Common.{◌≡◌, ◌≢◌, ◌↔◌, ℕ, Bool, true, false, not, List, [], ◌∷◌}
use Rattle.std.proofs.Common.{cond, refl, ap, sym, ◌∙◌, inl, inr}
use Rattle.std.specs.List.{list_all, list_any, AllByRecursion}
use Rattle.std.proofs.lemmas.Bool.{cases_Bool, false_from_ne_true, both_ways, not-true}
use Rattle.am_search.specs.declared.verdict.Verdict.{Verdict}
use Rattle.am_search.specs.declared.verdict.Verdict.TheVariants.{Yes, No, Open}
use Rattle.am_universe.proofs.CompletionLemmas.{completions_of_whole}
use Rattle.am_universe.proofs.ListLemmas.{IsIn, AllByRecursion-at, AllByRecursion-each}
use Rattle.am_universe.specs.Universe.{Label, sizes}
use Rattle.am_universe.specs.Choice.{IsWhole}
use Rattle.am_labels.specs.Matcher.{Matcher}
use Rattle.am_judged_lists.specs.Verdicts.{verdict_over, matches_at, verdict_of_list}
use Rattle.am_judged_lists.proofs.ListLemmas.{each_passes, all_pass, none_passes, not_all}
use Rattle.am_judged_lists.proofs.ListLemmas.{some_passes, same_all, same_any}

pub verdict_yes : (test : List ℕ → Bool) (cs : List (List ℕ)) → list_all test cs ≡ true → verdict_over test cs ≡ Yes
verdict_yes test cs all = rw all refl

pub verdict_open : (test : List ℕ → Bool) (cs : List (List ℕ)) → list_all test cs ≡ false → list_any test cs ≡ true → verdict_over test cs ≡ Open
verdict_open test cs all any = rw (all, any) refl

pub verdict_no : (test : List ℕ → Bool) (cs : List (List ℕ)) → list_all test cs ≡ false → list_any test cs ≡ false → verdict_over test cs ≡ No
verdict_no test cs all any = rw (all, any) refl

-- two tests that agree on each choice
pub same_verdict : (p q : List ℕ → Bool) (cs : List (List ℕ)) → AllByRecursion (λ c. p c ≡ q c) cs → verdict_over p cs ≡ verdict_over q cs
same_verdict p q cs same =
    ap (λ b. cond b Yes (cond (list_any p cs) Open No)) (same_all p q cs same)
    ∙ ap (λ b. cond (list_all q cs) Yes (cond b Open No)) (same_any p q cs same)

-- ---- What the verdicts mean.

-- what a verdict says of the two tests
told : (v : Verdict) (all any : Bool) → cond all Yes (cond any Open No) ≡ v → (v ≡ Yes → all ≡ true) × (v ≡ No → any ≡ false) × (v ≡ Open → (all ≡ false) × (any ≡ true))
told v true any e = ((λ _. refl), (λ no. cc), (λ only_some. cc))
told v false true e = ((λ yes. cc), (λ no. cc), (λ _. (refl, refl)))
told v false false e = ((λ yes. cc), (λ _. refl), (λ only_some. cc))

pub yes_exactly : (test : List ℕ → Bool) (cs : List (List ℕ)) → (verdict_over test cs ≡ Yes) ↔ AllByRecursion (λ c. test c ≡ true) cs
yes_exactly test cs = (
  λ yes. each_passes test cs ((told Yes (list_all test cs) (list_any test cs) yes).0 refl),
  λ all. verdict_yes test cs (all_pass test cs all),
)

pub no_exactly : (test : List ℕ → Bool) (cs : List (List ℕ)) (c : List ℕ) → IsIn cs c → (verdict_over test cs ≡ No) ↔ AllByRecursion (λ c. test c ≡ false) cs
no_exactly test cs c i = (
  λ no. AllByRecursion-each (λ d. test d ≡ false) cs (λ d j. false_from_ne_true (test d) (λ passes.
      both_ways (list_any test cs) ((told No (list_all test cs) (list_any test cs) no).1 refl) (some_passes test cs d j passes))),
  λ none. verdict_no test cs (not_all test cs c i (AllByRecursion-at (λ d. test d ≡ false) cs c none i)) (none_passes test cs none),
)

-- some do not pass exactly if not all do
some_fails : (test : List ℕ → Bool) (cs : List (List ℕ)) → list_any (λ c. not (test c)) cs ≡ not (list_all test cs)
some_fails test [] = refl
some_fails test (c ∷ cs) = elim (cases_Bool (test c)) [ inl e ↦ rw e (some_fails test cs) | inr e ↦ rw e refl ]

pub open_exactly : (test : List ℕ → Bool) (cs : List (List ℕ)) → (verdict_over test cs ≡ Open) ↔ ((list_any test cs ≡ true) × (list_any (λ c. not (test c)) cs ≡ true))
open_exactly test cs = (
  λ e. let both = (told Open (list_all test cs) (list_any test cs) e).2 refl in (both.1, some_fails test cs ∙ ap not both.0),
  λ both. verdict_open test cs (not-true (list_all test cs) (sym (some_fails test cs) ∙ both.1)) both.0,
)

-- the verdict over one choice is `Yes` or `No`
verdict_over_one : (test : List ℕ → Bool) (c : List ℕ) → verdict_over test (c ∷ []) ≡ cond (test c) Yes No
verdict_over_one test c = elim (cases_Bool (test c)) [ inl e ↦ rw e refl | inr e ↦ rw e refl ]

-- so is the verdict of a list at a whole choice
pub list_says : (u : List Label) (ms : List Matcher) (c : List ℕ) → IsWhole (sizes u) c
    → verdict_of_list u ms c ≡ cond (matches_at u ms c) Yes No
list_says u ms c whole =
    ap (verdict_over (matches_at u ms)) (completions_of_whole (sizes u) c whole)
    ∙ verdict_over_one (matches_at u ms) c

pub list_closed : (u : List Label) (ms : List Matcher) (c : List ℕ) → IsWhole (sizes u) c → verdict_of_list u ms c ≢ Open
list_closed u ms c whole e = never (matches_at u ms c) (sym (list_says u ms c whole) ∙ e)
  where
    never : (b : Bool) → cond b Yes No ≡ Open → ⊥
    never true e = cc
    never false e = cc
