-- Walks over the outcomes of rules, one rule after the other.
use Rattle.std.proofs.Common.{◌≡◌, ◌<◌, ◌||◌, ◌+◌, ◌∙◌, ℕ, zero, suc, List, [], ◌∷◌, length, map, take}
use Rattle.std.proofs.Common.{drop, Bool, true, false, Option, Some, refl, sym, ap, arith}
use Rattle.std.specs.Prelude.{◌==◌, slice_get, option_and_then, vec_len}
use Rattle.std.specs.List.{list_any}
use Rattle.std.proofs.Math.ListN.{get_or}
use Rattle.std.proofs.Math.Seq.{drop-cons}
use Rattle.std.proofs.lemmas.List.{length-map, map_push}
use Rattle.std.proofs.lemmas.Option.{get_or_from_slice_get, slice_get_within}
use Rattle.std.proofs.lemmas.List.Folds.{list_any-append}
use Rattle.std.proofs.Math.Bool.{or-false}
use Rattle.am_complete.proofs.Pushed.{one_longer}
use Rattle.am_outcomes.specs.OutcomeLines.{list_at}
use Rattle.am_rule_outcomes.specs.Narrowed.{Narrowed}
use Rattle.am_rule_outcomes.specs.NarrowingView.{rule_outcomes_view}
use Rattle.am_rule_outcomes.specs.declared.rule_outcomes.RuleOutcomes.{RuleOutcomes}
use Rattle.am_rule_outcomes.proofs.RulesFound.{joined_more}
use Rattle.am_reports.specs.RulesReach.{goes_by, lists_found, lists_of}

-- what is left from a position on
pub drop_at : {X : Type 0} (xs : List X) (i : ℕ) (x : X) → slice_get xs i ≡ Some x
    → drop i xs ≡ x ∷ drop (i + 1) xs
drop_at xs i x at =
    let next : suc i ≡ i + 1 = omega arith in
    drop-cons xs i x (slice_get_within xs i x at)
    ∙ ap (λ k. get_or xs i x ∷ drop k xs) next
    ∙ ap (λ y. y ∷ drop (i + 1) xs) (get_or_from_slice_get xs i x x at)

-- the outcomes of the rule at a position
pub rule_at : (found : List (Option Narrowed)) (i : ℕ) (n : Option Narrowed) → i < length found
    → n ≡ option_and_then (λ m. m) (slice_get found i) → slice_get found i ≡ Some n
rule_at [] i n within is = absurd (omega (arith, within))
rule_at (m ∷ found) zero n within is = ap Some (sym is)
rule_at (m ∷ found) (suc i) n within is = rule_at found i n (omega (arith, within)) is

module _ (test : List (List ℕ) → Bool) (found : List (Option Narrowed)) (i : ℕ)
    (n : Option Narrowed) (at : slice_get found i ≡ Some n) where
  pub left_at : list_any test (lists_found (drop i found))
      ≡ (list_any test (lists_of n) || list_any test (lists_found (drop (i + 1) found)))
  left_at =
      ap (λ ns. list_any test (lists_found ns)) (drop_at found i n at)
      ∙ list_any-append test (lists_of n) (lists_found (drop (i + 1) found))

  pub so_far_at : list_any test (lists_found (take (i + 1) found))
      ≡ (list_any test (lists_found (take i found)) || list_any test (lists_of n))
  so_far_at =
      ap (list_any test) (sym (joined_more lists_of found i n at))
      ∙ list_any-append test (lists_found (take i found)) (lists_of n)

-- ---- The outcomes of one rule.

abbrev pub Outcome : Type 0
Outcome = List (List ℕ) × List ℕ

abbrev pub only_lists : List Outcome → List (List (List ℕ))
only_lists outcomes = map (λ outcome. outcome.0) outcomes

pub outcome_left : (test : List (List ℕ) → Bool) (outcomes : List Outcome) (i : ℕ) (o : Outcome)
    → slice_get outcomes i ≡ Some o → list_any test (only_lists (drop i outcomes))
    ≡ (test o.0 || list_any test (only_lists (drop (i + 1) outcomes)))
outcome_left test outcomes i o at =
    ap (λ os. list_any test (only_lists os)) (drop_at outcomes i o at)

pub outcome_so_far : (test : List (List ℕ) → Bool) (outcomes : List Outcome) (i : ℕ) (o : Outcome)
    → slice_get outcomes i ≡ Some o → list_any test (only_lists (take (i + 1) outcomes))
    ≡ (list_any test (only_lists (take i outcomes)) || test o.0)
outcome_so_far test outcomes i o at =
    ap (λ os. list_any test (only_lists os)) (sym (one_longer outcomes i o at))
    ∙ ap (list_any test) (map_push (λ outcome. outcome.0) (take i outcomes) o)
    ∙ list_any-append test (only_lists (take i outcomes)) (o.0 ∷ [])
    ∙ ap (λ b. list_any test (only_lists (take i outcomes)) || b) (or-false (test o.0))

-- the receivers of an outcome are its first list
pub goes_here : (receiver : ℕ) (lists : List (List ℕ))
    → list_any (λ other. other == receiver) (list_at 0 lists) ≡ goes_by receiver lists
goes_here receiver [] = refl
goes_here receiver (receivers ∷ ends) = refl

-- whether there is an outcome
pub some_there : (outcomes : List Outcome) → 0 < length outcomes
    → list_any (λ lists. true) (only_lists outcomes) ≡ true
some_there [] some = absurd (omega (arith, some))
some_there (o ∷ outcomes) some = refl

pub none_there : (outcomes : List Outcome) → (0 < length outcomes → ⊥)
    → list_any (λ lists. true) (only_lists outcomes) ≡ false
none_there [] none = refl
none_there (o ∷ outcomes) none = absurd (none (omega arith))

-- there are as many rules as positions
pub view_long : (found : RuleOutcomes) → length (rule_outcomes_view found) ≡ vec_len found.of_rules
view_long found = length-map found.of_rules.items _ ∙ sym found.of_rules.ok.0
