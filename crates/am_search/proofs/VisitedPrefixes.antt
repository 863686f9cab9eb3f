-- Which prefixes are judged, and their order.
use Rattle.std.proofs.Common.{◌≡◌, ◌⊎◌, ◌↔◌, ℕ, ◌<◌, true, not, nat_eq, nat_lt, List, [], ◌∷◌, length, Contains, Some, None, ap, sym, subst, refl, inl, inr, arith, rules}
use Rattle.std.specs.Prelude.{IsTrue}
use Rattle.std.specs.List.{list_all, starts_with, AllByRecursion}
use Rattle.std.specs.List.Sorted.{IsStrictlySortedBy}
use Rattle.std.specs.Ordering.{nat_cmp}
use Rattle.std.specs.Cmp.Lexicographic.{slice_cmp}
use Rattle.std.specs.declared.cmp.Ordering.TheVariants.{Less}
use Rattle.std.proofs.lemmas.Bool.{false≢true, and_parts, and_from, and_right, cases_Bool}
use Rattle.std.proofs.lemmas.Bool.Decides.{nat_tests}
use Rattle.std.proofs.lemmas.List.Kept.{IsStrictlySortedBy-filter}
use Rattle.std.proofs.lemmas.Grind.{common_steps}
use borrow.Author.Tests.{lt-ltb}
use Rattle.am_universe.specs.Choice.{choices, admits, IsWhole}
use Rattle.am_universe.specs.Completions.{completions}
use Rattle.am_universe.proofs.ListLemmas.{IsIn, IsIn-from_Contains, Contains-from_IsIn, AllByRecursion-each}
use Rattle.am_universe.proofs.ChoiceLemmas.{behind, from_behind, into_behind, behind_sorted}
use Rattle.am_search.specs.declared.start.Start.{Start}
use Rattle.am_search.specs.declared.verdict.Verdict.{Verdict}
use Rattle.am_search.specs.Judge.{is_open}
use Rattle.am_search.specs.Start.{comes_before, first_of_start, at_or_after}
use Rattle.am_search.specs.Visits.{all_prefixes, proper_fronts, is_visited, visited}
use Rattle.am_search.proofs.ChoiceOrder.{got_at, in_filter, into_filter, filter_none, not_itself, not_back}
use Rattle.am_search.proofs.Odometer.{ArePositive, filled, first_completion_is}
use Rattle.am_search.proofs.PrefixOrder.{before_begins, before_beside, other_before}
use Rattle.am_search.proofs.Walks.{in_choices, completion_whole}

-- ---- All prefixes.

pub admitted_in : (sizes prefix : List ℕ) → IsIn (all_prefixes sizes) prefix → admits sizes prefix ≡ true
admitted_in [] prefix (inl e) = ap (admits []) (sym e)
admitted_in [] prefix (inr i) = absurd i
admitted_in (size ∷ sizes) prefix (inl e) = ap (admits (size ∷ sizes)) (sym e)
admitted_in (size ∷ sizes) prefix (inr i) =
    let r = from_behind 0 size (all_prefixes sizes) prefix i in
    let below : nat_lt r.position size ≡ true = lt-ltb r.position size (omega (arith, r.high)) in
    subst (λ c. admits (size ∷ sizes) c ≡ true) r.same (and_from (nat_lt r.position size) (admits sizes r.rest) below (admitted_in sizes r.rest r.others))

pub in_admitted : (sizes prefix : List ℕ) → admits sizes prefix ≡ true → IsIn (all_prefixes sizes) prefix
in_admitted [] (p ∷ prefix) a = absurd (false≢true a)
in_admitted (size ∷ sizes) (p ∷ prefix) a = search (rules, and_parts, nat_tests, into_behind, in_admitted sizes prefix)
in_admitted sizes prefix a = inl refl

pub prefixes_admitted : (sizes prefix : List ℕ) → (Contains (all_prefixes sizes) prefix ↔ IsTrue (admits sizes prefix))
prefixes_admitted sizes prefix = grind (arith, common_steps, admitted_in, IsIn-from_Contains, Contains-from_IsIn, in_admitted)

empty_first : (size first : ℕ) (cs : List (List ℕ)) → AllByRecursion (λ c. slice_cmp nat_cmp [] c ≡ Less) (behind first size cs)
empty_first size first cs = AllByRecursion-each (λ c. slice_cmp nat_cmp [] c ≡ Less) (behind first size cs) (λ c i. let r = from_behind first size cs c i in subst (λ d. slice_cmp nat_cmp [] d ≡ Less) r.same refl)

pub prefixes_sorted : (sizes : List ℕ) → IsStrictlySortedBy (slice_cmp nat_cmp) (all_prefixes sizes)
unfolding IsStrictlySortedBy
prefixes_sorted [] = (tt, tt)
prefixes_sorted (size ∷ sizes) = (empty_first size 0 (all_prefixes sizes), behind_sorted 0 size (all_prefixes sizes) (prefixes_sorted sizes))

pub visited_sorted : (sizes : List ℕ) (verdict : List ℕ → Verdict) (start : Start) → IsStrictlySortedBy (slice_cmp nat_cmp) (visited sizes verdict start)
visited_sorted sizes verdict start = IsStrictlySortedBy-filter (slice_cmp nat_cmp) (is_visited sizes verdict start) (all_prefixes sizes) (prefixes_sorted sizes)

-- ---- Lists that have a member.

some_member : {X : Type 0} (xs : List X) → nat_lt 0 (length xs) ≡ true → (x : X) × IsIn xs x
some_member [] h = absurd (false≢true h)
some_member (x ∷ xs) h = (x, inl refl)

pub member_some : {X : Type 0} (xs : List X) (x : X) → IsIn xs x → 0 < length xs
member_some [] x i = absurd i
member_some (y ∷ xs) x i = omega arith

-- ---- A prefix has a completion from a choice on: the choice begins with it, or comes before it.

abbrev pub ReachesTo : List ℕ → List ℕ → Type 0
ReachesTo f prefix = (starts_with nat_eq f prefix ≡ true) ⊎ (comes_before f prefix ≡ true)

pub reaches : (sizes f prefix : List ℕ) → nat_lt 0 (length (at_or_after (Some f) (completions sizes prefix))) ≡ true → ReachesTo f prefix
reaches sizes f prefix h =
    grind (arith, common_steps, some_member, in_filter, completion_whole, cases_Bool, before_beside, other_before)

pub in_completions : (sizes prefix c : List ℕ) → IsWhole sizes c → starts_with nat_eq c prefix ≡ true → IsIn (completions sizes prefix) c
in_completions sizes prefix c w h = into_filter (λ d. starts_with nat_eq d prefix) (choices sizes) c (in_choices sizes c w) h

pub reached : (sizes f prefix : List ℕ) → ArePositive sizes → IsWhole sizes f → admits sizes prefix ≡ true → ReachesTo f prefix
    → nat_lt 0 (length (at_or_after (Some f) (completions sizes prefix))) ≡ true
reached sizes f prefix some w a (inl begins) =
    lt-ltb 0 _ (member_some (at_or_after (Some f) (completions sizes prefix)) f
    (into_filter (λ c. not (comes_before c f)) (completions sizes prefix) f (in_completions sizes prefix f w begins) (ap not (not_itself f))))
reached sizes f prefix some w a (inr less) =
    let c : List ℕ = filled sizes prefix in
    let i : IsIn (completions sizes prefix) c = got_at (completions sizes prefix) 0 c (first_completion_is sizes prefix some a) in
    let begins : starts_with nat_eq c prefix ≡ true = (completion_whole sizes prefix c i).1 in
    lt-ltb 0 _ (member_some (at_or_after (Some f) (completions sizes prefix)) c
    (into_filter (λ d. not (comes_before d f)) (completions sizes prefix) c i (ap not (not_back f c (before_begins f prefix c less begins)))))

-- ---- The prefixes that are judged, where the start begins at a choice.

pub record IsVisited (sizes : List ℕ) (verdict : List ℕ → Verdict) (f prefix : List ℕ) : Type 0 where
  pub admitted : admits sizes prefix ≡ true
  pub fronts : list_all (λ front. is_open (verdict front)) (proper_fronts prefix) ≡ true
  pub reaches_to : ReachesTo f prefix

module _ (sizes : List ℕ) (verdict : List ℕ → Verdict) (start : Start) (f : List ℕ) (begins : first_of_start sizes start ≡ Some f) where
  pub in_visited : (prefix : List ℕ) → IsIn (visited sizes verdict start) prefix → IsVisited sizes verdict f prefix
  in_visited prefix i = grind (arith, common_steps, in_filter, and_parts, admitted_in, reaches)

  pub into_visited : (prefix : List ℕ) → ArePositive sizes → IsWhole sizes f → IsVisited sizes verdict f prefix → IsIn (visited sizes verdict start) prefix
  into_visited prefix some w h = grind (arith, common_steps, into_filter, in_admitted, and_from, reached)

-- if it begins nowhere, no prefix is judged
pub none_visited : (sizes : List ℕ) (verdict : List ℕ → Verdict) (start : Start) → first_of_start sizes start ≡ None → visited sizes verdict start ≡ []
none_visited sizes verdict start e = grind (arith, common_steps, filter_none, and_right)
