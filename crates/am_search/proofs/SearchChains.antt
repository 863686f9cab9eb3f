-- Consecutive pages of searches, under budgets that are enough: which choices they have together,
-- and that they come to an end.
use Rattle.std.proofs.Common.{◌≡◌, ℕ, ◌<◌, ◌≤◌, Bool, true, false, not, nat_eq, List, [], ◌∷◌, ◌++◌, length, Option, Some, None, MatchOption, ap, sym, subst, ◌∙◌, refl, inl, inr, arith, rules}
use Rattle.std.specs.List.{filter, starts_with}
use Rattle.std.proofs.lemmas.Grind.{common_steps}
use Rattle.am_universe.specs.Choice.{choices, admits}
use Rattle.am_universe.specs.Completions.{completions}
use Rattle.am_universe.proofs.ListLemmas.{IsIn}
use Rattle.am_search.specs.declared.start.Start.{Start}
use Rattle.am_search.specs.declared.start.Start.TheVariants.{At, After}
use Rattle.am_search.specs.declared.trailer.Trailer.{Trailer}
use Rattle.am_search.specs.declared.trailer.Trailer.TheVariants.{End, Next, Stopped}
use Rattle.am_search.specs.declared.verdict.Verdict.{Verdict}
use Rattle.am_search.specs.Judge.{AreSizes, IsJudge}
use Rattle.am_search.specs.Start.{comes_before, IsStart, first_of_start, at_or_after, choices_from, answers_from}
use Rattle.am_search.specs.Visits.{visited}
use Rattle.am_search.specs.Page.{AnswerPage, rest_after, IsPage, start_after, all_choices_of}
use Rattle.am_search.specs.BudgetPage.{IsSearchPage, IsSearchChain, BeginsLater}
use Rattle.am_search.proofs.ChoiceOrder.{got_at, filter_step, in_filter, not_itself, before_trans}
use Rattle.am_search.proofs.Odometer.{ArePositive, positive, filled, first_completion_is}
use Rattle.am_search.proofs.PrefixOrder.{before_begins}
use Rattle.am_search.proofs.Walks.{in_choices, first_is_whole, completion_whole}
use Rattle.am_search.proofs.VisitedPrefixes.{member_some}
use Rattle.am_search.proofs.VisitsBound.{kept_all, kept_more}
use Rattle.am_search.proofs.Pages.{pages_joined, choices_after, begins_with, next_is_start, more_left, last_in, never_stopped}
use Rattle.am_search.proofs.BudgetPages.{begun, visited_is, past_first, under_kind, without, stopped, rest_under, stays_from, enough_steps}

-- ---- Lists of which fewer pass.

fewer_by_one : (few more : List ℕ → Bool) (xs : List (List ℕ)) (y : List ℕ) → ((x : List ℕ) → few x ≡ true → more x ≡ true) → IsIn xs y → few y ≡ false → more y ≡ true
    → length (filter few xs) < length (filter more xs)
fewer_by_one few more [] y within i out kept = absurd i
fewer_by_one few more (x ∷ xs) y within (inl same) out kept = search (rules, kept_more, filter_step)
fewer_by_one few more (x ∷ xs) y within (inr i) out kept = search (rules, fewer_by_one few more xs y within i out kept)

-- ---- Where a start begins.

-- a start that has choices begins at one of them
pub record HasFirst (ns : List ℕ) (start : Start) : Type 0 where
  pub first : List ℕ
  pub begins : first_of_start ns start ≡ Some first

has_first : (ns : List ℕ) (start : Start) → 0 < length (choices_from ns start) → HasFirst ns start
has_first ns start some = grind (arith, common_steps)

first_member : (xs ys : List (List ℕ)) (c : List ℕ) → xs ≡ c ∷ ys → IsIn xs c
first_member xs ys c e = subst (λ l. IsIn l c) (sym e) (inl refl)

-- a start after one of the choices of another start begins later than that one, if it has choices
after_later : (ns c : List ℕ) (start : Start) → IsIn (choices_from ns start) c → 0 < length (choices_from ns (After c)) → BeginsLater ns start (After c)
after_later ns c start i some =
    let here = has_first ns start (member_some (choices_from ns start) c i) in
    let there = has_first ns (After c) some in
    let from_here = begins_with ns here.first start here.begins in
    let from_there = begins_with ns there.first (After c) there.begins in
    let behind : comes_before c there.first ≡ true =
    (in_filter (comes_before c) (choices ns) there.first (subst (λ l. IsIn l there.first) (choices_after ns c) (first_member (choices_from ns (After c)) _ there.first from_there.1))).1 in
    record {
      first = here.first;
      begins = here.begins;
      next_first = there.first;
      next_begins = there.begins;
      later = by here.first there.first behind (subst (λ l. IsIn l c) from_here.1 i);
    }
  where
    by : (f d : List ℕ) → comes_before c d ≡ true → IsIn (f ∷ choices_from ns (After f)) c → comes_before f d ≡ true
    by f d less (inl same) = ap (λ x. comes_before x d) same ∙ less
    by f d less (inr j) =
        before_trans f c d (in_filter (comes_before f) (choices ns) c (subst (λ l. IsIn l c) (choices_after ns f) j)).1 less

-- a start at a prefix begins later, if the first choice comes before the prefix
at_later : (ns f p : List ℕ) (start : Start) → ArePositive ns → first_of_start ns start ≡ Some f → admits ns p ≡ true → comes_before f p ≡ true → BeginsLater ns start (At p)
at_later ns f p start some begins a less =
    let is = first_completion_is ns p some a in
    record {
      first = f;
      begins = begins;
      next_first = filled ns p;
      next_begins = is;
      later = before_begins f p (filled ns p) less (completion_whole ns p (filled ns p) (got_at (completions ns p) 0 (filled ns p) is)).1;
    }

-- a start that begins later has fewer choices
pub later_fewer : (ns : List ℕ) (start next : Start) → BeginsLater ns start next → length (choices_from ns next) < length (choices_from ns start)
later_fewer ns start next h =
    let f : List ℕ = h.first in
    let d : List ℕ = h.next_first in
    let few : choices_from ns next ≡ filter (λ x. not (comes_before x d)) (choices ns) = ap (λ o. at_or_after o (choices ns)) h.next_begins in
    let more : choices_from ns start ≡ filter (λ x. not (comes_before x f)) (choices ns) = ap (λ o. at_or_after o (choices ns)) h.begins in
    omega (
      arith,
      ap length few,
      ap length more,
      fewer_by_one (λ x. not (comes_before x d)) (λ x. not (comes_before x f)) (choices ns) f (λ x late. stays_from f d x h.later late)
          (in_choices ns f (first_is_whole ns start f h.begins)) (ap not h.later) (ap not (not_itself f)),
    )

pub later_some : (ns : List ℕ) (start next : Start) → BeginsLater ns start next → 0 < length (choices_from ns next)
later_some ns start next h = omega (arith, ap length (begins_with ns h.next_first next h.next_begins).1)

-- ---- The start behind a page.

-- what holds of the start that follows a page
pub record GoesOn (ns : List ℕ) (start next : Start) : Type 0 where
  pub is_start : IsStart ns next
  pub later : BeginsLater ns start next

some_answer : (truth : List ℕ → Bool) (cs : List (List ℕ)) → 0 < length (filter truth cs) → 0 < length cs
some_answer truth cs h = omega (arith, h, kept_all truth cs)

goes_on_from : (ns : List ℕ) (truth : List ℕ → Bool) (start next : Start) (page : AnswerPage) → IsPage ns truth start page → start_after page.trailer ≡ Some next → GoesOn ns start next
goes_on_from ns truth start next page is_page e = by page.trailer refl e
  where
    by : (t : Trailer) → page.trailer ≡ t → start_after t ≡ Some next → GoesOn ns start next
    by End ends after = cc
    by (Next c) ends after = let same : After c ≡ next = cc in subst (GoesOn ns start) same (record {
      is_start = next_is_start ns c truth start page is_page ends;
      later = after_later ns c start (last_in ns c truth start page is_page ends)
          (some_answer truth (choices_from ns (After c)) (more_left ns c truth start page is_page ends));
    })
    by (Stopped p) ends after = absurd (never_stopped ns p truth start page is_page ends)

module _ (ns : List ℕ) (truth : List ℕ → Bool) (verdict : List ℕ → Verdict) (start : Start) (page : AnswerPage) (law : IsJudge ns truth verdict) (h : IsSearchPage ns verdict start page) where
  pub goes_on : (next : Start) → start_after page.trailer ≡ Some next → GoesOn ns start next
  goes_on next e =
      elim (under_kind ns truth verdict start law h.limit h.budget h.at_least_one) [
        | without same ↦ goes_on_from ns truth start next page (record { limit = h.limit; at_least_one = h.at_least_one; from_start = h.from_start ∙ same }) e
        | stopped k p is at_k same ↦
            let both : Some (At p) ≡ Some next = sym (ap (λ q. start_after q.trailer) (h.from_start ∙ same)) ∙ e in
            let next_is : At p ≡ next = cc in
            let begins = begun ns verdict start k p at_k in
            let admitted = (visited_is ns verdict start k p at_k p (got_at (visited ns verdict start) k p at_k)).admitted in
            subst (GoesOn ns start) next_is (record {
              is_start = admitted;
              later = at_later ns begins.first p start (positive ns law.limits.values) begins.begins admitted
                  (past_first ns verdict start k p at_k (enough_steps ns truth verdict start h.limit h.budget law h.at_least_one h.enough k is));
            })
      ]

  -- the answers are those of the page and those that its trailer leaves
  pub search_rest : answers_from ns truth start ≡ page.choices ++ rest_after ns truth page.trailer
  search_rest = grind (arith, common_steps, rest_under)

-- ---- Pages in a row.

pub search_chain_joined : (ns : List ℕ) (truth : List ℕ → Bool) (verdict : List ℕ → Verdict) (start : Start) (pages : List AnswerPage) → IsJudge ns truth verdict → IsSearchChain ns verdict start pages
    → all_choices_of pages ≡ answers_from ns truth start
search_chain_joined ns truth verdict start pages law h =
    pages_joined ns truth (IsSearchPage ns verdict) (λ start page h. search_rest ns truth verdict start page law h) start pages h

-- there are no more pages than choices from their start on, or one page
at_most_from : (ns : List ℕ) (truth : List ℕ → Bool) (verdict : List ℕ → Verdict) (start : Start) (pages : List AnswerPage) → IsJudge ns truth verdict → IsSearchChain ns verdict start pages
    → (n : ℕ) → 0 < n → length (choices_from ns start) ≤ n → length pages ≤ n
at_most_from ns truth verdict start [] law h n some within = absurd h
at_most_from ns truth verdict start (page ∷ pages) law h n some within =
    by (start_after page.trailer) refl h.1 (λ next k. at_most_from ns truth verdict next pages law k)
  where
    by : (o : Option Start) → start_after page.trailer ≡ o → MatchOption o (pages ≡ []) (λ next. IsSearchChain ns verdict next pages)
        → ((next : Start) → IsSearchChain ns verdict next pages → (n : ℕ) → 0 < n → length (choices_from ns next) ≤ n → length pages ≤ n) → length (page ∷ pages) ≤ n
    by None e none more = omega (arith, ap length none)
    by (Some next) e k more =
        let on = goes_on ns truth verdict start page law h.0 next e in
        omega (arith, more next k (length (choices_from ns next)) (later_some ns start next on.later) (omega arith), later_fewer ns start next on.later)

pub from_at_most : (ns : List ℕ) (start : Start) → length (choices_from ns start) ≤ length (choices ns)
from_at_most ns start = grind (arith, common_steps, kept_all)

pub some_choice : (ns : List ℕ) → AreSizes ns → 0 < length (choices ns)
some_choice ns are =
    let is = first_completion_is ns [] (positive ns are.values) refl in
    let c : List ℕ = filled ns [] in
    member_some (choices ns) c (in_filter (λ d. starts_with nat_eq d []) (choices ns) c (got_at (completions ns []) 0 c is)).0

pub search_chain_ends : (ns : List ℕ) (truth : List ℕ → Bool) (verdict : List ℕ → Verdict) (start : Start) (pages : List AnswerPage) → IsJudge ns truth verdict → IsSearchChain ns verdict start pages
    → length pages ≤ length (choices ns)
search_chain_ends ns truth verdict start pages law h = at_most_from ns truth verdict start pages law h (length (choices ns)) (some_choice ns law.limits) (from_at_most ns start)
