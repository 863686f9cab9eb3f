-- Verdicts that are the same at all prefixes of choices make the same search.
use Rattle.std.proofs.Common.{◌≡◌, ℕ, Bool, true, nat_lt, ◌&&◌, List, [], ◌∷◌, length, slice_get, Option, Some, None, ap, refl, arith, rules}
use Rattle.std.specs.List.{list_all}
use Rattle.std.proofs.lemmas.Bool.{and_parts, and_from}
use Rattle.std.proofs.lemmas.List.Folds.{list_all-map}
use Rattle.std.proofs.lemmas.Grind.{common_steps}
use Rattle.am_universe.specs.Choice.{admits}
use Rattle.am_universe.proofs.ListLemmas.{IsIn}
use Rattle.am_search.specs.declared.start.Start.{Start}
use Rattle.am_search.specs.declared.verdict.Verdict.{Verdict}
use Rattle.am_search.specs.Judge.{is_open}
use Rattle.am_search.specs.Visits.{all_prefixes, proper_fronts, completions_from, is_visited, visited, up_to_budget, given_under}
use Rattle.am_search.specs.BudgetPage.{stop_of, page_under}
use Rattle.am_search.proofs.ChoiceOrder.{in_filter, filter_same}
use Rattle.am_search.proofs.VisitsGive.{joined_same}
use Rattle.am_search.proofs.VisitedPrefixes.{admitted_in}
use Rattle.am_search.proofs.BudgetPages.{in_taken}

-- ---- The proper fronts of a prefix of a choice are prefixes of choices.

fronts_same : (ns prefix : List ℕ) (f g : List ℕ → Bool) → ((q : List ℕ) → admits ns q ≡ true → f q ≡ g q) → admits ns prefix ≡ true
    → list_all f (proper_fronts prefix) ≡ list_all g (proper_fronts prefix)
fronts_same ns [] f g same a = refl
fronts_same [] (p ∷ prefix) f g same a = cc
fronts_same (n ∷ ns) (p ∷ prefix) f g same a = search (rules, and_parts, list_all-map, fronts_same ns prefix, and_from)

in_budget : (budget : Option ℕ) (ps : List (List ℕ)) (p : List ℕ) → IsIn (up_to_budget budget ps) p → IsIn ps p
in_budget None ps p i = i
in_budget (Some n) ps p i = in_taken ps n p i

-- ---- The same prefixes are judged, the same choices are given, and the search stops at the same prefix.

module _ (ns : List ℕ) (v w : List ℕ → Verdict) (start : Start) (same : (prefix : List ℕ) → admits ns prefix ≡ true → v prefix ≡ w prefix) where
  same_visited : visited ns v start ≡ visited ns w start
  same_visited =
      filter_same (is_visited ns v start) (is_visited ns w start) (all_prefixes ns)
      (λ p i. ap (λ b. b && nat_lt 0 (length (completions_from ns start p)))
      (fronts_same ns p (λ front. is_open (v front)) (λ front. is_open (w front)) (λ q a. ap is_open (same q a)) (admitted_in ns p i)))

  same_given : (budget : Option ℕ) → given_under ns v start budget ≡ given_under ns w start budget
  same_given budget = grind (arith, common_steps, joined_same, admitted_in, in_filter, in_budget, same_visited)

  same_stop_of : (budget : Option ℕ) → stop_of ns v start budget ≡ stop_of ns w start budget
  same_stop_of None = refl
  same_stop_of (Some n) = ap (λ l. slice_get l n) same_visited

  pub same_page : (limit budget : Option ℕ) → page_under ns v start limit budget ≡ page_under ns w start limit budget
  same_page limit budget = grind (arith, common_steps, same_stop_of, same_given)
