-- Rules, each with its outcomes: the one at a position, one more of them, and one more of the
-- outcomes of one.
use Rattle.std.proofs.Common.{◌≡◌, ℕ, zero, suc, ◌+◌, List, [], ◌∷◌, ◌++◌, length, take, Option, Some, None}
use Rattle.std.proofs.Common.{Bool, true, false, cond, map, append_assoc, option_map, refl, sym, ap}
use Rattle.std.proofs.Common.{◌∙◌, arith}
use Rattle.std.specs.Prelude.{slice_get}
use Rattle.std.specs.List.{AllByRecursion, count_by, filter, flat_map}
use Rattle.std.proofs.lemmas.List.{length-map, map-append, flat_map_more}
use Rattle.std.proofs.lemmas.List.Elements.{filter-append}
use Rattle.std.proofs.lemmas.List.Sums.{sum_by_push}
use Rattle.std.proofs.lemmas.Option.{slice_get-map}
use Rattle.am_universe.proofs.LabelPairLemmas.{at_place}
use Rattle.am_complete.proofs.Pushed.{one_longer}
use Rattle.am_alerting_rules.specs.RulesFile.{AlertingRule}
use Rattle.am_rule_outcomes.specs.declared.rule_outcomes.RuleOutcomes.{RuleOutcomes}
use Rattle.am_rule_outcomes.specs.Narrowed.{HaveWholeChoices, Narrowed}
use Rattle.am_rule_outcomes.specs.NarrowingView.{narrowed_in, narrowed_of, rule_outcomes_view}
use Rattle.am_rule_outcomes.specs.RuleOutcomes.{rule_outcomes_shown, with_rule_outcomes}

as_many : (rules : List AlertingRule) (found : List (Option Narrowed))
    → length found ≡ length rules → length (with_rule_outcomes rules found) ≡ length rules
as_many [] found same = refl
as_many (r ∷ rules) [] same = absurd (omega (arith, same))
as_many (r ∷ rules) (n ∷ found) same = ap suc (as_many rules found (omega (arith, same)))

at_position : (rules : List AlertingRule) (found : List (Option Narrowed)) (i : ℕ)
    (r : AlertingRule) (n : Option Narrowed) → slice_get rules i ≡ Some r → slice_get found i ≡ Some n
    → slice_get (with_rule_outcomes rules found) i ≡ Some (r, rule_outcomes_shown r n)
at_position [] found i r n at there = absurd cc
at_position (s ∷ rules) [] i r n at there = absurd cc
at_position (s ∷ rules) (m ∷ found) zero r n at there =
    let is : s ≡ r = cc in
    let same : m ≡ n = cc in λ j. Some (is j, rule_outcomes_shown (is j) (same j))
at_position (s ∷ rules) (m ∷ found) (suc i) r n at there = at_position rules found i r n at there

module _ (rules : List AlertingRule) (found : RuleOutcomes) where
  pub found_length : length found.of_rules.items ≡ length rules
      → length (with_rule_outcomes rules (rule_outcomes_view found)) ≡ length rules
  found_length same =
      as_many rules (rule_outcomes_view found)
      (length-map found.of_rules.items (narrowed_of (narrowed_in found)) ∙ same)

  pub found_at : (i : ℕ) (r : AlertingRule) (position : Option ℕ) → slice_get rules i ≡ Some r
      → slice_get found.of_rules.items i ≡ Some position
      → slice_get (with_rule_outcomes rules (rule_outcomes_view found)) i
      ≡ Some (r, rule_outcomes_shown r (narrowed_of (narrowed_in found) position))
  found_at i r position at there =
      at_position rules (rule_outcomes_view found) i r (narrowed_of (narrowed_in found) position) at
      (slice_get-map (narrowed_of (narrowed_in found)) found.of_rules.items i
      ∙ ap (option_map (narrowed_of (narrowed_in found))) there)

-- the choices of the outcomes of a rule are whole
pub whole_of : (each : List Narrowed) → AllByRecursion HaveWholeChoices each → (position : Option ℕ)
    (n : Narrowed) → narrowed_of each position ≡ Some n → HaveWholeChoices n
whole_of each whole None n at = absurd cc
whole_of each whole (Some i) n at = at_place HaveWholeChoices each i n whole at

-- lists that are joined, and items that are counted, with one more
pub joined_more : {X Y : Type 0} (f : X → List Y) (xs : List X) (i : ℕ) (x : X)
    → slice_get xs i ≡ Some x → flat_map f (take i xs) ++ f x ≡ flat_map f (take (i + 1) xs)
joined_more f xs i x at =
    flat_map_more f [] (take i xs) x ∙ ap (flat_map f) (one_longer xs i x at)

pub counted_more : {X : Type 0} (test : X → Bool) (xs : List X) (i : ℕ) (x : X)
    → slice_get xs i ≡ Some x
    → count_by test (take (i + 1) xs) ≡ count_by test (take i xs) + cond (test x) 1 0
counted_more test xs i x at =
    ap (count_by test) (sym (one_longer xs i x at))
    ∙ sum_by_push (λ y. cond (test y) 1 0) (take i xs) x

-- ---- One outcome more.

-- the images of those that pass a test, with one more if it passes
pub kept_with : {X Y : Type 0} (test : X → Bool) (f : X → Y) (start now next : List Y) (os : List X)
    (o : X) (b : Bool) → test o ≡ b → now ≡ start ++ map f (filter test os)
    → next ≡ now ++ cond b (f o ∷ []) [] → next ≡ start ++ map f (filter test (os ++ o ∷ []))
kept_with test f start now next os o b is so_far adds =
    adds ∙ (λ j. so_far j ++ cond (sym is j) (f o ∷ []) [])
    ∙ append_assoc start (map f (filter test os)) (cond (test o) (f o ∷ []) [])
    ∙ ap (λ more. start ++ more) (sym (ap (map f) (filter-append test os (o ∷ []))
    ∙ map-append f (filter test os) (filter test (o ∷ []))
    ∙ ap (λ more. map f (filter test os) ++ more) (by (test o))))
  where
    by : (b : Bool) → map f (cond b (o ∷ []) []) ≡ cond b (f o ∷ []) []
    by true = refl
    by false = refl

-- the outcomes that are shown, with one more
pub shown_more : {X Y Z : Type 0} (f : Y → Z) (g : X → Y) (xs : List X) (i : ℕ) (x : X)
    → slice_get xs i ≡ Some x
    → map f (map g (take (i + 1) xs)) ≡ map f (map g (take i xs)) ++ f (g x) ∷ []
shown_more f g xs i x at =
    ap (λ ys. map f (map g ys)) (sym (one_longer xs i x at))
    ∙ ap (map f) (map-append g (take i xs) (x ∷ []))
    ∙ map-append f (map g (take i xs)) (g x ∷ [])
