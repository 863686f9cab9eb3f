-- Where a start begins, the choice that follows another, and the first answer.
use Rattle.std.proofs.Common.{◌≡◌, ℕ, zero, suc, true, false, Bool, List, [], ◌∷◌, length, Option, Some, None, IfSome, MatchOption, slice_get, nat_eq, ap, sym, subst, ◌∙◌, refl, arith, rules}
use Rattle.std.specs.Prelude.{⊤, option_map}
use Rattle.std.specs.List.{filter, find, starts_with}
use Rattle.std.specs.Iterator.{YieldsFirst, MakesProgress, item_count}
use Rattle.std.specs.Ordering.{nat_cmp, is_lt}
use Rattle.std.specs.Cmp.Lexicographic.{slice_cmp}
use Rattle.std.proofs.lemmas.Bool.{false≢true, false_from_ne_true, and_parts}
use Rattle.std.proofs.lemmas.List.Kept.{IsStrictlySortedBy-filter}
use Rattle.std.proofs.lemmas.Grind.{common_steps}
use Rattle.am_universe.specs.Choice.{choices, admits, IsWhole}
use Rattle.am_universe.specs.Completions.{completions}
use Rattle.am_universe.proofs.ListLemmas.{IsIn, IsIn-from_Contains}
use Rattle.am_universe.proofs.ChoiceLemmas.{choices_whole, choices_sorted, whole_from_in, less_first}
use Rattle.am_universe.proofs.CompletionLemmas.{completions_are_below}
use Rattle.am_search.specs.declared.start.Start.{Start}
use Rattle.am_search.specs.declared.start.Start.TheVariants.{At, After}
use Rattle.am_search.specs.NextPrefix.{next_beside}
use Rattle.am_search.specs.Start.{comes_before, first_of_start, at_or_after, choices_from}
use Rattle.am_search.proofs.ChoiceOrder.{Ascends, got_at, found_in, none_found, in_filter, into_filter, from_first, first_is, member_then_rest, not_back, not_itself}
use Rattle.am_search.proofs.NextPrefix.{IsBeside, beside_is, none_beside}
use Rattle.am_search.proofs.Odometer.{ArePositive, filled, first_completion_is}
use Rattle.am_search.proofs.PrefixOrder.{before_nothing, before_begins, begins_whole}

-- ---- A start begins at a whole choice.

pub completion_whole : (ns prefix c : List ℕ) → IsIn (completions ns prefix) c
    → IsWhole ns c × (starts_with nat_eq c prefix ≡ true)
completion_whole ns prefix c i =
    let r = in_filter (λ d. starts_with nat_eq d prefix) (choices ns) c i in
    (whole_from_in ns c r.0, r.1)

pub first_is_whole : (ns : List ℕ) (start : Start) (c : List ℕ) → first_of_start ns start ≡ Some c → IsWhole ns c
first_is_whole ns (At prefix) c e = (completion_whole ns prefix c (got_at (completions ns prefix) 0 c e)).0
first_is_whole ns (After d) c e = whole_from_in ns c (subst (λ o. IfSome o (IsIn (choices ns))) e (found_in (comes_before d) (choices ns)))

-- ---- One choice, and then those behind it.

pub in_choices : (ns c : List ℕ) → IsWhole ns c → IsIn (choices ns) c
in_choices ns c w = IsIn-from_Contains (choices ns) c ((choices_whole ns c).1 w)

pub one_more : (ns c : List ℕ) → IsWhole ns c → at_or_after (Some c) (choices ns) ≡ c ∷ choices_from ns (After c)
one_more ns c w = member_then_rest (choices ns) c (choices_sorted ns) (in_choices ns c w)

-- ---- The first choice after a whole one.

-- the same whole choices come before a prefix and before its first completion
pub before_filled : (ns prefix d : List ℕ) → admits ns prefix ≡ true → length d ≡ length ns → comes_before d (filled ns prefix) ≡ comes_before d prefix
before_filled [] [] d a e = refl
before_filled (n ∷ ns) [] (zero ∷ d) a e = before_filled ns [] d refl (omega arith) ∙ before_nothing d
before_filled (n ∷ ns) [] (suc p ∷ d) a e = not_back (0 ∷ filled ns []) (suc p ∷ d) (ap is_lt (less_first 0 (suc p) (filled ns []) d (omega arith)))
before_filled (n ∷ ns) (p ∷ prefix) (q ∷ d) a e = search (rules, before_filled ns prefix d, and_parts, filled)
before_filled [] (p ∷ prefix) d a e = cc
before_filled (n ∷ ns) prefix [] a e = absurd (omega arith)

found_first : (test : List ℕ → Bool) (cs : List (List ℕ)) → find test cs ≡ slice_get (filter test cs) 0
found_first test [] = refl
found_first test (c ∷ cs) = grind (arith, common_steps, found_first test cs)

module _ (ns c : List ℕ) (some : ArePositive ns) (w : IsWhole ns c) where
  -- a later choice does not begin with a whole one
  apart : (x : List ℕ) → IsIn (choices ns) x → comes_before c x ≡ true → starts_with nat_eq x c ≡ false
  apart x i less = false_from_ne_true (starts_with nat_eq x c) (λ b.
      let same : x ≡ c = begins_whole x c ((whole_from_in ns x i).1 ∙ sym w.1) b in
      false≢true (sym (not_itself c) ∙ ap (comes_before c) (sym same) ∙ less))

  next_filled : (next : List ℕ) → IsBeside ns c next → find (comes_before c) (choices ns) ≡ Some (filled ns next)
  next_filled next beside =
      let later : List (List ℕ) = filter (comes_before c) (choices ns) in
      let d : List ℕ = filled ns next in
      let i : IsIn (completions ns next) d = got_at (completions ns next) 0 d (first_completion_is ns next some beside.admitted) in
      let member = completion_whole ns next d i in
      found_first (comes_before c) (choices ns)
      ∙ first_is later d (IsStrictlySortedBy-filter (slice_cmp nat_cmp) (comes_before c) (choices ns) (choices_sorted ns))
      (into_filter (comes_before c) (choices ns) d (in_choices ns d member.0) (before_begins c next d beside.after member.1))
      (λ x j.
      let r = in_filter (comes_before c) (choices ns) x j in
      let whole = whole_from_in ns x r.0 in
      before_filled ns next x beside.admitted whole.1 ∙ beside.least x whole.0 r.1 (apart x r.0 r.1))

  pub next_choice_is : find (comes_before c) (choices ns) ≡ option_map (filled ns) (next_beside ns c)
  next_choice_is = by (next_beside ns c) refl
    where
      by : (o : Option (List ℕ)) → next_beside ns c ≡ o → find (comes_before c) (choices ns) ≡ option_map (filled ns) o
      by None e =
          none_found (comes_before c) (choices ns)
          (λ x i. false_from_ne_true (comes_before c x) (λ less. false≢true (sym (apart x i less) ∙ none_beside ns c x e w.0 (whole_from_in ns x i).0 less)))
      by (Some next) e = next_filled next (beside_is ns c next w.0 e)

-- ---- What `next` says.

pub progress : {S A : Type 0} (rest : S → List A) (s : S) (r : Option A) (t : S) → YieldsFirst rest s r t → MakesProgress (λ _. ⊤) (item_count rest) s r t
progress rest s None t h = record { on = λ f. tt; keeps = tt; rests = λ f. tt }
progress rest s (Some x) t h = record { on = λ f. (tt, tt, omega (arith, ap length h)); keeps = tt; rests = λ f. tt }

pub first_of_all : (ns : List ℕ) → choices_from ns (At []) ≡ choices ns
first_of_all ns = ap (λ cs. at_or_after (slice_get cs 0) (choices ns)) (completions_are_below ns [] refl) ∙ by (choices ns) (choices_sorted ns)
  where
    by : (cs : List (List ℕ)) → Ascends cs → at_or_after (slice_get cs 0) cs ≡ cs
    by [] s = refl
    by (c ∷ cs) s = from_first c cs s

pub first_answer : (ns : List ℕ) (truth : List ℕ → Bool) (prefix : List ℕ) (left rest : List (List ℕ)) (r : Option (List ℕ)) → prefix ≡ [] → left ≡ filter truth (choices_from ns (At prefix))
    → MatchOption r ((left ≡ []) × (rest ≡ [])) (λ x. left ≡ x ∷ rest) → r ≡ find truth (choices ns)
first_answer ns truth prefix left rest r none are h = grind (arith, common_steps, first_of_all, found_first)
