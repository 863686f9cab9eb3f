-- How many prefixes a search judges at most if the judge is exact.
use Rattle.std.proofs.Common.{◌≡◌, ℕ, zero, suc, ◌+◌, ◌*◌, ◌<◌, ◌≤◌, Bool, true, false, not, nat_eq, nat_lt, ◌&&◌, ◌||◌, List, [], ◌∷◌, length, map, Some, ap, sym, subst, ◌∙◌, refl, inl, inr, arith}
use Rattle.std.specs.Prelude.{IsTrue}
use Rattle.std.specs.List.{filter, list_any, sum, starts_with}
use Rattle.std.proofs.Math.Nat.{add-mul, mul-add}
use Rattle.std.proofs.lemmas.Bool.{false≢true, and_from, and_parts, cases_Bool}
use Rattle.std.proofs.lemmas.Bool.Decides.{nat_tests}
use Rattle.std.proofs.lemmas.List.{length-append, length-map}
use Rattle.std.proofs.lemmas.List.Elements.{filter-append}
use Rattle.std.proofs.lemmas.List.Sums.{sum_by-cons, length-filter, count_by-le-length}
use Rattle.std.proofs.lemmas.Grind.{common_steps}
use Rattle.am_universe.specs.Choice.{choices, admits}
use Rattle.am_universe.specs.Completions.{completions}
use Rattle.am_universe.proofs.ListLemmas.{IsIn}
use Rattle.am_universe.proofs.ChoiceLemmas.{behind, from_behind, choices_sorted}
use Rattle.am_universe.proofs.UniverseLemmas.{list_any-map}
use Rattle.am_universe.proofs.CompletionLemmas.{completions_are_below, filter_of_map}
use Rattle.am_search.specs.declared.start.Start.{Start}
use Rattle.am_search.specs.declared.start.Start.TheVariants.{At}
use Rattle.am_search.specs.declared.verdict.Verdict.{Verdict}
use Rattle.am_search.specs.declared.verdict.Verdict.TheVariants.{Open}
use Rattle.am_search.specs.Judge.{is_open}
use Rattle.am_search.specs.ExactJudge.{IsExactJudge}
use Rattle.am_search.specs.Start.{comes_before, first_of_start, at_or_after, answers_from}
use Rattle.am_search.specs.Visits.{all_prefixes, visited}
use Rattle.am_search.proofs.ChoiceOrder.{filter_none, in_filter, into_filter, twice, from_member, not_itself, not_back}
use Rattle.am_search.proofs.PrefixOrder.{before_begins, before_beside, before_same, begins_same, begins_through, front_passes, other_before}
use Rattle.am_search.proofs.Walks.{first_is_whole, first_of_all, in_choices, completion_whole}
use Rattle.am_search.proofs.VisitedPrefixes.{ReachesTo, in_visited, in_completions, none_visited}
use Rattle.am_search.proofs.VisitsGive.{completions_behind}
use Rattle.std.proofs.Common.{rules}

-- a function of the lists that begin with the position `q`, by what follows that position
abbrev past : {X : Type 0} → ℕ → (List ℕ → X) → List ℕ → X
past q f rest = f (q ∷ rest)

-- ---- How many of a list pass a test.

abbrev pub kept : {X : Type 0} → (X → Bool) → List X → ℕ
kept test xs = length (filter test xs)

pub kept_all : {X : Type 0} (test : X → Bool) (xs : List X) → kept test xs ≤ length xs
kept_all test xs = rw (length-filter test xs) (count_by-le-length test xs)

pub kept_more : {X : Type 0} (f g : X → Bool) (xs : List X) → ((x : X) → IsIn xs x → f x ≡ true → g x ≡ true) → kept f xs ≤ kept g xs
kept_more f g [] h = omega arith
kept_more f g (x ∷ xs) h = grind (arith, common_steps, kept_more f g xs)

kept_map : (test : List ℕ → Bool) (q : ℕ) (xs : List (List ℕ)) → kept test (map (λ x. q ∷ x) xs) ≡ kept (past q test) xs
kept_map test q xs = ap length (filter_of_map (λ x. q ∷ x) test xs) ∙ length-map (filter (past q test) xs) (λ x. q ∷ x)

kept_some : {X : Type 0} (test : X → Bool) (xs : List X) → list_any test xs ≡ true → 0 < kept test xs
kept_some test [] h = absurd (false≢true h)
kept_some test (x ∷ xs) h = grind (arith, common_steps, kept_some test xs)

kept_behind : (test : List ℕ → Bool) (first count : ℕ) (xs : List (List ℕ)) → kept test (behind first (suc count) xs) ≡ kept (past first test) xs + kept test (behind (first + 1) count xs)
kept_behind test first count xs = grind (arith, common_steps, filter-append, behind, length-append, kept_map)

-- ---- Sums over the positions of a label.

one_of_each : (v w m n count z : ℕ) → v ≤ 1 + m * z → w ≤ count + n * z → v + w ≤ suc count + (m + n) * z
one_of_each v w m n count z h k = omega (arith, h, k, add-mul m n z)

-- the prefixes, and the true choices, that begin with each of these positions
behind_each : (test : List ℕ → Bool) (prefixes : List (List ℕ)) (truth : List ℕ → Bool) (cs : List (List ℕ)) (z first count : ℕ)
    → ((q : ℕ) → kept (past q test) prefixes ≤ 1 + kept (past q truth) cs * z) → kept test (behind first count prefixes) ≤ count + kept truth (behind first count cs) * z
behind_each test prefixes truth cs z first zero each = omega arith
behind_each test prefixes truth cs z first (suc count) each =
    search (rules, kept_behind, one_of_each, behind_each test prefixes truth cs z (first + 1) count each)

-- ---- The prefixes each proper front of which has a true completion.

abbrev has_true_fronts : List ℕ → (List ℕ → Bool) → List ℕ → Bool
has_true_fronts sizes truth [] = true
has_true_fronts [] truth (q ∷ prefix) = false
has_true_fronts (size ∷ sizes) truth (q ∷ prefix) = list_any truth (choices (size ∷ sizes)) && has_true_fronts sizes (past q truth) prefix

on_top : (size n z count : ℕ) → 0 < n → count ≤ size + n * z → suc count ≤ 1 + n * (size + z)
on_top size zero z count some h = absurd (omega arith)
on_top size (suc m) z count some h = omega (arith, h, mul-add (suc m) size z, add-mul m 1 size, add-mul m 1 z)

at_most_same : (a b c : ℕ) → a ≤ b → b ≤ c → a ≤ c
at_most_same a b c h k = omega (arith, h, k)

more_times : (count m n z : ℕ) → count ≤ 1 + m * z → m ≤ n → count ≤ 1 + n * z
more_times count m n z h k = grind (arith, h, k)

has_true_fronts_at_most : (sizes : List ℕ) (truth : List ℕ → Bool) → kept (has_true_fronts sizes truth) (all_prefixes sizes) ≤ 1 + kept truth (choices sizes) * sum sizes
has_true_fronts_at_most [] truth = omega arith
has_true_fronts_at_most (size ∷ sizes) truth = elim (cases_Bool (list_any truth (choices (size ∷ sizes)))) [
  | inl some ↦
      let count : ℕ = kept (has_true_fronts (size ∷ sizes) truth) (behind 0 size (all_prefixes sizes)) in
      subst (λ z. suc count ≤ 1 + kept truth (choices (size ∷ sizes)) * z) (sym (sum_by-cons (λ x. x) size sizes))
      (on_top size (kept truth (choices (size ∷ sizes))) (sum sizes) count (kept_some truth (choices (size ∷ sizes)) some)
      (behind_each (has_true_fronts (size ∷ sizes) truth) (all_prefixes sizes) truth (choices sizes) (sum sizes) 0 size (λ q.
      at_most_same _ (kept (has_true_fronts sizes (past q truth)) (all_prefixes sizes)) _
      (kept_more _ (has_true_fronts sizes (past q truth)) (all_prefixes sizes) (λ prefix i h. (and_parts (list_any truth (choices (size ∷ sizes))) (has_true_fronts sizes (past q truth) prefix) h).1))
      (has_true_fronts_at_most sizes (past q truth)))))
  | inr none ↦
      let nothing : filter (has_true_fronts (size ∷ sizes) truth) (behind 0 size (all_prefixes sizes)) ≡ [] = filter_none _ _ (λ prefix i.
      let r = from_behind 0 size (all_prefixes sizes) prefix i in
      subst (λ p. has_true_fronts (size ∷ sizes) truth p ≡ false) r.same (ap (λ b. b && has_true_fronts sizes (past r.position truth) r.rest) none)) in
      omega (arith, ap length nothing)
]

-- a prefix whose proper fronts each have a true completion
from_fronts : (sizes : List ℕ) (truth : List ℕ → Bool) (prefix : List ℕ) → admits sizes prefix ≡ true
    → ((front : List ℕ) → starts_with nat_eq prefix front ≡ true → comes_before front prefix ≡ true → admits sizes front ≡ true → list_any truth (completions sizes front) ≡ true)
    → has_true_fronts sizes truth prefix ≡ true
from_fronts sizes truth [] a each = refl
from_fronts [] truth (q ∷ prefix) a each = cc
from_fronts (size ∷ sizes) truth (q ∷ prefix) a each =
    let parts = and_parts (nat_lt q size) (admits sizes prefix) a in
    let below : q < size = grind (arith, nat_tests, parts.0) in
    and_from (list_any truth (choices (size ∷ sizes))) (has_true_fronts sizes (past q truth) prefix)
    (subst (λ cs. list_any truth cs ≡ true) (completions_are_below (size ∷ sizes) [] refl) (each [] refl refl refl))
    (from_fronts sizes (past q truth) prefix parts.1 (λ front h less b.
    sym (list_any-map truth (λ c. q ∷ c) (completions sizes front)) ∙ ap (list_any truth) (sym (completions_behind size sizes q front below))
    ∙ each (q ∷ front) (begins_same q prefix front ∙ h) (before_same q front prefix ∙ less) (and_from (nat_lt q size) (admits sizes front) parts.0 b)))

-- ---- What is judged from a start on.

some_true : {X : Type 0} (test : X → Bool) (xs : List X) → list_any test xs ≡ true → (x : X) × IsIn xs x × (test x ≡ true)
some_true test [] h = absurd (false≢true h)
some_true test (x ∷ xs) h = grind (arith, common_steps, some_true test xs)

is_some_true : {X : Type 0} (test : X → Bool) (xs : List X) (x : X) → IsIn xs x → test x ≡ true → list_any test xs ≡ true
is_some_true test [] x i h = absurd i
is_some_true test (y ∷ xs) x i h = grind (arith, common_steps, is_some_true test xs x)

is_open_then : (v : Verdict) → is_open v ≡ true → v ≡ Open
is_open_then Open e = refl
is_open_then v e = absurd (false≢true e)

-- a search that comes to a prefix comes to its fronts too
reaches_front : (f prefix front : List ℕ) → starts_with nat_eq prefix front ≡ true → ReachesTo f prefix → ReachesTo f front
reaches_front f prefix front h reach = grind (arith, common_steps, cases_Bool, begins_through, before_beside, other_before, not_back)

module _ (sizes : List ℕ) (truth : List ℕ → Bool) (verdict : List ℕ → Verdict) (exact : IsExactJudge sizes truth verdict) where
  -- if each open prefix has a completion that passes a test, at most so many are visited
  visited_by : (start : Start) (f : List ℕ) (test : List ℕ → Bool) → first_of_start sizes start ≡ Some f
      → ((prefix : List ℕ) → IsTrue (admits sizes prefix) → verdict prefix ≡ Open → ReachesTo f prefix → list_any test (completions sizes prefix) ≡ true)
      → length (visited sizes verdict start) ≤ 1 + kept test (choices sizes) * sum sizes
  visited_by start f test begins passes =
      search (rules, at_most_same, kept_more, in_visited, into_filter, from_fronts, passes, is_open_then, front_passes, reaches_front, has_true_fronts_at_most)

  -- the first choice may be the only one that an open prefix along it has
  module _ (start : Start) (f : List ℕ) (begins : first_of_start sizes start ≡ Some f) where
    abbrev is_at_or_true : List ℕ → Bool
    is_at_or_true c = truth c || not (comes_before f c)

    passes : (prefix : List ℕ) → IsTrue (admits sizes prefix) → verdict prefix ≡ Open → ReachesTo f prefix → list_any (λ c. not (comes_before c f) && is_at_or_true c) (completions sizes prefix) ≡ true
    passes prefix a e (inl h) =
        is_some_true _ (completions sizes prefix) f (in_completions sizes prefix f (first_is_whole sizes start f begins) h) (grind (arith, common_steps, not_itself))
    passes prefix a e (inr less) = grind (arith, common_steps, some_true, not_back, before_begins, completion_whole, is_some_true)

    few_more : kept (λ c. not (comes_before c f) && is_at_or_true c) (choices sizes) ≤ length (answers_from sizes truth start) + 1
    few_more =
        let later : List (List ℕ) = filter (comes_before f) (choices sizes) in
        let from : filter (λ c. not (comes_before c f)) (choices sizes) ≡ f ∷ later = from_member (choices sizes) f (choices_sorted sizes) (in_choices sizes f (first_is_whole sizes start f begins)) in
        let first : at_or_after (first_of_start sizes start) (choices sizes) ≡ f ∷ later = ap (λ o. at_or_after o (choices sizes)) begins ∙ from in
        let more : kept is_at_or_true later ≤ kept truth later = kept_more is_at_or_true truth later (λ c i h. grind (arith, common_steps, in_filter)) in
        rw (← twice (λ c. not (comes_before c f)) is_at_or_true (choices sizes), from, first) (grind (arith, common_steps))

-- a start that begins nowhere visits nothing
if_begun : (sizes : List ℕ) (verdict : List ℕ → Verdict) (start : Start) (n : ℕ) → ((f : List ℕ) → first_of_start sizes start ≡ Some f → length (visited sizes verdict start) ≤ n)
    → length (visited sizes verdict start) ≤ n
if_begun sizes verdict start n h = grind (arith, common_steps, none_visited)

pub visited_from_first : (sizes : List ℕ) (truth : List ℕ → Bool) (verdict : List ℕ → Verdict) → IsExactJudge sizes truth verdict
    → length (visited sizes verdict (At [])) ≤ 1 + length (answers_from sizes truth (At [])) * sum sizes
visited_from_first sizes truth verdict exact =
    subst (λ cs. length (visited sizes verdict (At [])) ≤ 1 + kept truth cs * sum sizes) (sym (first_of_all sizes))
    (if_begun sizes verdict (At []) _ (λ f begins. visited_by sizes truth verdict exact (At []) f truth begins (λ prefix a e r. exact.some prefix a e)))

pub visited_at_most : (sizes : List ℕ) (truth : List ℕ → Bool) (verdict : List ℕ → Verdict) (start : Start) → IsExactJudge sizes truth verdict
    → length (visited sizes verdict start) ≤ 1 + (length (answers_from sizes truth start) + 1) * sum sizes
visited_at_most sizes truth verdict start exact =
    if_begun sizes verdict start _ (λ f begins. more_times _ _ _ (sum sizes)
    (visited_by sizes truth verdict exact start f _ begins (passes sizes truth verdict exact start f begins))
    (few_more sizes truth verdict exact start f begins))
