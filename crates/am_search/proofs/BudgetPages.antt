-- Pages of a search under a budget: the answers before the stop, and the answers that are left.
use Rattle.std.proofs.Common.{◌≡◌, ◌⊎◌, ℕ, zero, suc, ◌+◌, ◌<◌, ◌≤◌, Bool, true, false, not, nat_eq, List, [], ◌∷◌, ◌++◌, length, take, drop, slice_get, Option, Some, None, IfSome, length-append, ap, sym, subst, ◌∙◌, refl, inl, inr, arith, append-nil, rules}
use Rattle.std.specs.List.{filter, flat_map, starts_with}
use Rattle.std.proofs.lemmas.Bool.{false≢true, false_from_ne_true, cases_Bool}
use Rattle.std.proofs.lemmas.Grind.{flat_map-append, common_steps}
use Rattle.std.proofs.lemmas.List.{take-append-le, take-append-drop, get_or_append_left, take_all}
use Rattle.std.proofs.lemmas.List.Elements.{filter-append}
use Rattle.am_universe.specs.Choice.{choices}
use Rattle.am_universe.specs.Completions.{completions}
use Rattle.am_universe.proofs.ListLemmas.{IsIn, IsIn-left}
use Rattle.am_search.specs.declared.start.Start.{Start}
use Rattle.am_search.specs.declared.start.Start.TheVariants.{At}
use Rattle.am_search.specs.declared.trailer.Trailer.TheVariants.{End, Next, Stopped}
use Rattle.am_search.specs.declared.verdict.Verdict.{Verdict}
use Rattle.am_search.specs.Judge.{IsJudge, is_open}
use Rattle.am_search.specs.Start.{comes_before, at_or_after, choices_from, answers_from}
use Rattle.am_search.specs.Visits.{visited, given_at, given_by, given_under}
use Rattle.am_search.specs.Page.{page_of, page_from, rest_after}
use Rattle.am_search.specs.BudgetPage.{stop_of, trailer_at, page_under, IsEnough}
use Rattle.am_search.proofs.ChoiceOrder.{got_at, Ascends, above_first, ascends_rest, not_back, before_trans, filter_all, filter_none, filters_swapped, in_filter}
use Rattle.am_search.proofs.Odometer.{admits_at_most}
use Rattle.am_search.proofs.PrefixOrder.{before_nothing, before_parts, begins_parts, begins_behind, before_begins, before_beside, front_passes}
use Rattle.am_search.proofs.VisitedPrefixes.{ReachesTo, visited_sorted, in_visited, IsVisited}
use Rattle.am_search.proofs.VisitSteps.{past_length}
use Rattle.am_search.proofs.VisitsGive.{visited_give}
use Rattle.am_search.proofs.WalkSteps.{HasBegun, begun_at}
use Rattle.am_search.proofs.PageLines.{part_page, all_page, page_of_part}
use Rattle.am_search.proofs.Pages.{choices_at, filter_within, page_rest, kind_of, part, whole}

-- what does not come before a later choice does not come before an earlier one
pub stays_from : (f p c : List ℕ) → comes_before f p ≡ true → not (comes_before c p) ≡ true → not (comes_before c f) ≡ true
stays_from f p c less late = grind (arith, common_steps, false_from_ne_true, before_trans)

-- ---- Before and after a place in a list that ascends.

before_at : (xs : List (List ℕ)) (k : ℕ) (p q : List ℕ) → Ascends xs → slice_get xs k ≡ Some p → IsIn (take k xs) q → comes_before q p ≡ true
before_at [] k p q s e i = cc
before_at (x ∷ xs) zero p q s e i = absurd i
before_at (x ∷ xs) (suc k) p q s e (inl same) = ap (λ y. comes_before y p) (sym same) ∙ above_first x xs p s (got_at xs k p e)
before_at (x ∷ xs) (suc k) p q s e (inr i) = before_at xs k p q (ascends_rest x xs s) e i

from_at : (xs : List (List ℕ)) (k : ℕ) (p q : List ℕ) → Ascends xs → slice_get xs k ≡ Some p → IsIn (drop k xs) q → (p ≡ q) ⊎ (comes_before p q ≡ true)
from_at [] k p q s e i = cc
from_at (x ∷ xs) zero p q s e (inl same) = let here : x ≡ p = cc in inl (sym here ∙ same)
from_at (x ∷ xs) zero p q s e (inr i) = let here : x ≡ p = cc in inr (ap (λ y. comes_before y q) (sym here) ∙ above_first x xs q s i)
from_at (x ∷ xs) (suc k) p q s e i = from_at xs k p q (ascends_rest x xs s) e i

pub in_taken : (xs : List (List ℕ)) (k : ℕ) (q : List ℕ) → IsIn (take k xs) q → IsIn xs q
in_taken xs k q i = subst (λ l. IsIn l q) (take-append-drop k xs) (IsIn-left (take k xs) (drop k xs) q i)

-- a filter of joined lists whose members all pass, or all fail
all_joined : (test : List ℕ → Bool) (f : List ℕ → List (List ℕ)) (ps : List (List ℕ)) → ((p c : List ℕ) → IsIn ps p → IsIn (f p) c → test c ≡ true) → filter test (flat_map f ps) ≡ flat_map f ps
all_joined test f [] h = refl
all_joined test f (p ∷ ps) h = grind (arith, common_steps, filter-append, filter_all, all_joined test f ps)

none_joined : (test : List ℕ → Bool) (f : List ℕ → List (List ℕ)) (ps : List (List ℕ)) → ((p c : List ℕ) → IsIn ps p → IsIn (f p) c → test c ≡ false) → filter test (flat_map f ps) ≡ []
none_joined test f [] h = refl
none_joined test f (p ∷ ps) h = grind (arith, common_steps, filter-append, filter_none, none_joined test f ps)

-- ---- What a prefix gives begins with it, and the prefix is judged `Yes`.

record IsGivenAt (verdict : List ℕ → Verdict) (q c : List ℕ) : Type 0 where
  begins : starts_with nat_eq c q ≡ true
  closed : is_open (verdict q) ≡ false

in_completions_from : (sizes q c : List ℕ) (first : Option (List ℕ)) → IsIn (at_or_after first (completions sizes q)) c → starts_with nat_eq c q ≡ true
in_completions_from sizes q c None i = absurd i
in_completions_from sizes q c (Some f) i = grind (arith, common_steps, in_filter)

given_at_is : (sizes : List ℕ) (verdict : List ℕ → Verdict) (start : Start) (q c : List ℕ) → IsIn (given_at sizes verdict start q) c → IsGivenAt verdict q c
given_at_is sizes verdict start q c i = grind (arith, common_steps, in_completions_from)

-- ---- What is given before a visited prefix, and from there on.

module _ (sizes : List ℕ) (verdict : List ℕ → Verdict) (start : Start) (k : ℕ) (p : List ℕ) (at_k : slice_get (visited sizes verdict start) k ≡ Some p) where
  pub begun : HasBegun sizes start
  begun = begun_at sizes verdict start k p at_k

  pub visited_is : (q : List ℕ) → IsIn (visited sizes verdict start) q → IsVisited sizes verdict begun.first q
  visited_is q i = in_visited sizes verdict start begun.first begun.begins q i

  given_early : (q c : List ℕ) → IsIn (take k (visited sizes verdict start)) q → IsIn (given_at sizes verdict start q) c → comes_before c p ≡ true
  given_early q c i j =
      let less = before_at (visited sizes verdict start) k p q (visited_sorted sizes verdict start) at_k i in
      let given = given_at_is sizes verdict start q c j in
      let here = visited_is p (got_at (visited sizes verdict start) k p at_k) in
      grind (arith, common_steps, cases_Bool, false≢true, front_passes, before_beside)

  given_late : (q c : List ℕ) → IsIn (drop k (visited sizes verdict start)) q → IsIn (given_at sizes verdict start q) c → comes_before c p ≡ false
  given_late q c i j =
      let given = given_at_is sizes verdict start q c j in
      elim (from_at (visited sizes verdict start) k p q (visited_sorted sizes verdict start) at_k i) [
        | inl same ↦ ap (comes_before c) same ∙ begins_behind q c given.begins
        | inr less ↦ not_back p c (before_begins p q c less given.begins)
      ]

  -- the answers are those given before the prefix, and then those given from it on
  module _ (truth : List ℕ → Bool) (law : IsJudge sizes truth verdict) where
    pub answers_cut : answers_from sizes truth start
        ≡ given_by sizes verdict start (take k (visited sizes verdict start)) ++ given_by sizes verdict start (drop k (visited sizes verdict start))
    answers_cut =
        sym (visited_give sizes truth verdict start law)
        ∙ ap (given_by sizes verdict start) (sym (take-append-drop k (visited sizes verdict start)))
        ∙ flat_map-append (given_at sizes verdict start) (take k (visited sizes verdict start)) (drop k (visited sizes verdict start))

    -- the answers before the prefix were given, and the others are left
    pub given_before : given_by sizes verdict start (take k (visited sizes verdict start)) ≡ filter (λ c. comes_before c p) (answers_from sizes truth start)
    given_before = search (rules, append-nil, none_joined, given_late, all_joined, given_early, filter-append, answers_cut)

    left_from : given_by sizes verdict start (drop k (visited sizes verdict start)) ≡ filter (λ c. not (comes_before c p)) (answers_from sizes truth start)
    left_from = search (rules, none_joined, given_early, all_joined, given_late, filter-append, answers_cut)

    -- if the prefix comes after the first choice, the answers left are those from the prefix on
    pub left_at : comes_before begun.first p ≡ true → given_by sizes verdict start (drop k (visited sizes verdict start)) ≡ answers_from sizes truth (At p)
    left_at less =
        let here = visited_is p (got_at (visited sizes verdict start) k p at_k) in
        left_from
        ∙ filters_swapped (λ c. not (comes_before c p)) truth (choices_from sizes start)
        ∙ ap (filter truth)
        (ap (λ o. filter (λ c. not (comes_before c p)) (at_or_after o (choices sizes))) begun.begins
        ∙ filter_within (λ c. not (comes_before c p)) (λ c. not (comes_before c begun.first)) (choices sizes) (λ c late. stays_from begun.first p c less late)
        ∙ sym (choices_at sizes p law.limits here.admitted))

-- ---- A budget of more steps than there are labels comes past the first choice.

longer : (f a b : List ℕ) → starts_with nat_eq f a ≡ true → starts_with nat_eq f b ≡ true → comes_before a b ≡ true → length a < length b
longer f a [] h k less = absurd (false≢true (sym (before_nothing a) ∙ less))
longer f [] (q ∷ b) h k less = omega arith
longer [] (p ∷ a) (q ∷ b) h k less = absurd (false≢true h)
longer (r ∷ f) (p ∷ a) (q ∷ b) h k less = grind (arith, common_steps, begins_parts, before_parts, longer f a b)

deep : (f : List ℕ) (xs : List (List ℕ)) (n k : ℕ) (p : List ℕ) → Ascends xs → ((y : List ℕ) → IsIn xs y → ReachesTo f y)
    → ((y : List ℕ) → IsIn xs y → starts_with nat_eq f y ≡ true → n ≤ length y) → slice_get xs k ≡ Some p → starts_with nat_eq f p ≡ true → n + k ≤ length p
deep f [] n k p s reach least e b = cc
deep f (x ∷ xs) n zero p s reach least e b =
    let here : x ≡ p = cc in
    omega (arith, least p (inl here) b)
deep f (x ∷ xs) n (suc k) p s reach least e b =
    let over = above_first x xs p s (got_at xs k p e) in
    let to_x = along (reach x (inl refl)) over in
    let low = least x (inl refl) to_x in
    omega (
      arith,
      deep f xs (suc n) k p (ascends_rest x xs s) (λ y i. reach y (inr i))
          (λ y i c. omega (arith, low, longer f x y to_x c (above_first x xs y s i))) e b,
    )
  where
    along : ReachesTo f x → comes_before x p ≡ true → starts_with nat_eq f x ≡ true
    along (inl h) over = h
    along (inr less) over = absurd (false≢true (sym (begins_behind p f b) ∙ before_trans f x p less over))

module _ (sizes : List ℕ) (verdict : List ℕ → Verdict) (start : Start) (k : ℕ) (p : List ℕ) (at_k : slice_get (visited sizes verdict start) k ≡ Some p) where
  pub past_first : length sizes < k → comes_before (begun sizes verdict start k p at_k).first p ≡ true
  past_first enough = by (visited_is sizes verdict start k p at_k p (got_at (visited sizes verdict start) k p at_k))
    where
      f : List ℕ
      f = (begun sizes verdict start k p at_k).first

      by : IsVisited sizes verdict f p → comes_before f p ≡ true
      by here = elim here.reaches_to [
        | inr less ↦ less
        | inl b ↦
            let long : 0 + k ≤ length p =
            deep f (visited sizes verdict start) 0 k p (visited_sorted sizes verdict start)
            (λ y i. (visited_is sizes verdict start k p at_k y i).reaches_to) (λ y i c. omega arith) at_k b in
            absurd (omega (arith, long, enough, admits_at_most sizes p here.admitted))
      ]

-- ---- What a page under a budget is.

-- if nothing stops the search, it gives all answers
all_given : (sizes : List ℕ) (truth : List ℕ → Bool) (verdict : List ℕ → Verdict) (start : Start) (budget : Option ℕ) → IsJudge sizes truth verdict
    → stop_of sizes verdict start budget ≡ None → given_under sizes verdict start budget ≡ answers_from sizes truth start
all_given sizes truth verdict start None law none = visited_give sizes truth verdict start law
all_given sizes truth verdict start (Some k) law none = grind (arith, common_steps, take_all, past_length, visited_give)

-- the answers under a budget are the first of all answers
given_first : (sizes : List ℕ) (truth : List ℕ → Bool) (verdict : List ℕ → Verdict) (start : Start) (budget : Option ℕ) → IsJudge sizes truth verdict
    → (rest : List (List ℕ)) × (answers_from sizes truth start ≡ given_under sizes verdict start budget ++ rest)
given_first sizes truth verdict start None law = ([], sym (visited_give sizes truth verdict start law) ∙ sym (append-nil (given_under sizes verdict start None)))
given_first sizes truth verdict start (Some k) law =
    let all : List (List ℕ) = visited sizes verdict start in (
      given_by sizes verdict start (drop k all),
      sym (visited_give sizes truth verdict start law)
          ∙ ap (given_by sizes verdict start) (sym (take-append-drop k all))
          ∙ flat_map-append (given_at sizes verdict start) (take k all) (drop k all),
    )

-- a page that is cut by its limit is also cut from all answers
same_part : (xs later : List (List ℕ)) (n : ℕ) → 0 < n → n < length xs → part_page xs n ≡ part_page (xs ++ later) n
same_part xs later n some more = search (rules, take-append-le, get_or_append_left)

module _ (sizes : List ℕ) (truth : List ℕ → Bool) (verdict : List ℕ → Verdict) (start : Start) (law : IsJudge sizes truth verdict) where
  -- if nothing stops the search, or the limit cuts the page, it is the page without a budget
  pub same_unstopped : (limit budget : Option ℕ) → stop_of sizes verdict start budget ≡ None → page_under sizes verdict start limit budget ≡ page_from sizes truth start limit
  same_unstopped limit budget none = grind (arith, common_steps, all_given)

  same_cut : (limit budget : Option ℕ) (n : ℕ) → limit ≡ Some n → 0 < n → n < length (given_under sizes verdict start budget)
      → part_page (given_under sizes verdict start budget) n ≡ page_from sizes truth start limit
  same_cut limit budget n is some more =
      let xs : List (List ℕ) = given_under sizes verdict start budget in
      let front = given_first sizes truth verdict start budget law in
      same_part xs front.0 n some more ∙ sym (page_of_part End (xs ++ front.0) n (omega (arith, length-append xs front.0, more)))
      ∙ ap (λ l. page_of l (Some n)) (sym front.1) ∙ ap (page_of (answers_from sizes truth start)) (sym is)

  -- it is the page without a budget, or the search stopped at a prefix
  pub data UnderKind (limit budget : Option ℕ) : Type 0 where
    without : page_under sizes verdict start limit budget ≡ page_from sizes truth start limit → UnderKind limit budget
    stopped : (k : ℕ) (p : List ℕ) → budget ≡ Some k → slice_get (visited sizes verdict start) k ≡ Some p
        → page_under sizes verdict start limit budget ≡ all_page (Stopped p) (given_by sizes verdict start (take k (visited sizes verdict start))) → UnderKind limit budget

  stopped_at : (limit budget : Option ℕ) (p : List ℕ) → stop_of sizes verdict start budget ≡ Some p
      → page_under sizes verdict start limit budget ≡ all_page (trailer_at (stop_of sizes verdict start budget)) (given_under sizes verdict start budget) → UnderKind limit budget
  stopped_at limit None p e same = cc
  stopped_at limit (Some k) p e same = stopped k p refl e (same ∙ ap (λ o. all_page (trailer_at o) (given_under sizes verdict start (Some k))) e)

  pub under_kind : (limit budget : Option ℕ) → IfSome limit (λ n. 0 < n) → UnderKind limit budget
  under_kind limit budget some = by (stop_of sizes verdict start budget) refl
    where
      by : (o : Option (List ℕ)) → stop_of sizes verdict start budget ≡ o → UnderKind limit budget
      by None e = without (same_unstopped limit budget e)
      by (Some p) e = elim (kind_of (trailer_at (stop_of sizes verdict start budget)) (given_under sizes verdict start budget) limit some) [
        | part n is h more same ↦ without (same ∙ same_cut limit budget n is h more)
        | whole same ↦ stopped_at limit budget p e same
      ]

-- ---- Laws of pages under a budget.

module _ (sizes : List ℕ) (truth : List ℕ → Bool) (verdict : List ℕ → Verdict) (start : Start) (limit budget : Option ℕ) (law : IsJudge sizes truth verdict) (some : IfSome limit (λ n. 0 < n)) where
  -- a page that does not stop is the page without a budget
  pub same_next : (c : List ℕ) → (page_under sizes verdict start limit budget).trailer ≡ Next c → page_under sizes verdict start limit budget ≡ page_from sizes truth start limit
  same_next c e = elim (under_kind sizes truth verdict start law limit budget some) [
    | without same ↦ same
    | stopped k p is at_k same ↦ let no : Stopped p ≡ Next c = sym (ap (λ page. page.trailer) same) ∙ e in cc
  ]

  pub same_end : (page_under sizes verdict start limit budget).trailer ≡ End → page_under sizes verdict start limit budget ≡ page_from sizes truth start limit
  same_end e = elim (under_kind sizes truth verdict start law limit budget some) [
    | without same ↦ same
    | stopped k p is at_k same ↦ let no : Stopped p ≡ End = sym (ap (λ page. page.trailer) same) ∙ e in cc
  ]

  -- a page that stops at a prefix has the answers before that prefix
  pub stopped_before : (p : List ℕ) → (page_under sizes verdict start limit budget).trailer ≡ Stopped p
      → (page_under sizes verdict start limit budget).choices ≡ filter (λ c. comes_before c p) (answers_from sizes truth start)
  stopped_before p e = grind (arith, common_steps, under_kind, given_before)

  module _ (enough : IsEnough sizes budget) where
    pub enough_steps : (k : ℕ) → budget ≡ Some k → length sizes < k
    enough_steps k is = subst (IsEnough sizes) is enough

    -- the answers are those of the page, and then those that its trailer leaves
    pub rest_under : answers_from sizes truth start ≡ (page_under sizes verdict start limit budget).choices ++ rest_after sizes truth (page_under sizes verdict start limit budget).trailer
    rest_under = elim (under_kind sizes truth verdict start law limit budget some) [
      | without same ↦ page_rest sizes truth start (page_under sizes verdict start limit budget) (record { limit = limit; at_least_one = some; from_start = same })
      | stopped k p is at_k same ↦
          answers_cut sizes verdict start k p at_k truth law
          ∙ ap (λ l. given_by sizes verdict start (take k (visited sizes verdict start)) ++ l) (left_at sizes verdict start k p at_k truth law (past_first sizes verdict start k p at_k (enough_steps k is)))
          ∙ ap (λ page. page.choices ++ rest_after sizes truth page.trailer) (sym same)
    ]
