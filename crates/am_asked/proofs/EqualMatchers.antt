-- The matchers that `equal` stands for are those of the pairs of a world, in the same order.
use Rattle.std.proofs.Common.{◌≡◌, inl, inr, ℕ, ◌+◌, List, [], ◌∷◌, ◌++◌, Some}
use Rattle.std.proofs.Common.{map, refl, ap, ◌∙◌, arith}
use Rattle.std.proofs.lemmas.Grind.{common_steps}
use Rattle.std.proofs.Common.{String, string_bytes}
use Rattle.std.specs.Prelude.{slice_get}
use Rattle.std.specs.declared.alloc.Global.{Global}
use Rattle.std.specs.List.{filter, flat_map, enumerate_from}
use Rattle.std.proofs.lemmas.Bool.{cases_Bool}
use Rattle.std.proofs.lemmas.List.{map-append}
use Rattle.std.proofs.lemmas.List.Concat.{flat_map-append}
use Rattle.std.proofs.lemmas.List.Elements.{filter-append}
use Rattle.am_universe.specs.LabelSet.{LabelMap, value_of}
use Rattle.am_universe.proofs.ListLemmas.{IsIn}
use Rattle.am_labels.specs.declared.op.Op.TheVariants.{Equal}
use Rattle.am_labels.specs.Matcher.{Matcher, all_hold}
use Rattle.am_config.specs.ConfigFile.{Rule}
use Rattle.am_eval.specs.World.{World}
use Rattle.am_eval.specs.Pairs.{pair_of, pairs_of_rule, pairs_of}
use Rattle.am_universe.proofs.Members.{item_at}
use Rattle.am_eval.proofs.PairLemmas.{fires}
use Rattle.am_complete.specs.declared.origin.Origin.{Origin}
use Rattle.am_complete.specs.declared.origin.Origin.TheVariants as origin_is
use Rattle.am_asked.specs.Asked.{equal_to_alert}
use Rattle.am_asked.specs.Placed.{placed_at, placed_by_alert, placed_by_pair, placed_in_equal}
use Rattle.am_asked.specs.Placed.{is_named}

-- ---- Of one pair, name by name.

-- the matchers of some names, which are texts in memory
abbrev pub of_names : ℕ → LabelMap → List (String Global) → List (Origin × Matcher)
of_names rule a names =
    placed_at (origin_is.Rule rule) (filter is_named (equal_to_alert (map string_bytes names) a))

abbrev of_name : ℕ → List ℕ → List ℕ → List (Origin × Matcher)
of_name rule name value =
    placed_at (origin_is.Rule rule)
    (filter is_named (record { name = name; op = Equal; value = value } ∷ []))

first_name : (rule : ℕ) (a : LabelMap) (name : String Global) (names : List (String Global))
    → of_names rule a (name ∷ names)
    ≡ of_name rule (string_bytes name) (value_of a (string_bytes name)) ++ of_names rule a names
first_name rule a name names =
    let here : List Matcher = record {
      name = string_bytes name;
      op = Equal;
      value = value_of a (string_bytes name);
    } ∷ [] in
    let later = equal_to_alert (map string_bytes names) a in
    ap (placed_at (origin_is.Rule rule)) (filter-append is_named here later)
    ∙ map-append (λ m. (origin_is.Rule rule, m)) (filter is_named here) (filter is_named later)

-- ---- Of all pairs.

-- the matchers of a pair are those of its rule and its alert
pub at_pair : (w : World) (rule : ℕ × Rule) (firing : ℕ × LabelMap)
    → slice_get w.config.rules rule.0 ≡ Some rule.1 → slice_get w.alerts firing.0 ≡ Some firing.1
    → placed_by_pair w (pair_of rule firing) ≡ placed_by_alert rule firing.1
at_pair w rule firing at_rule at_alert = rw (at_rule, at_alert) refl

by_rule : (w : World) (rule : ℕ × Rule) → slice_get w.config.rules rule.0 ≡ Some rule.1
    → (from : ℕ) (left : List LabelMap)
    → ((firing : ℕ × LabelMap) → IsIn (enumerate_from from left) firing
    → slice_get w.alerts firing.0 ≡ Some firing.1)
    → flat_map (placed_by_pair w)
    (map (pair_of rule) (filter (fires rule) (enumerate_from from left)))
    ≡ flat_map (placed_by_alert rule) (filter (λ a. all_hold a rule.1.source) left)
by_rule w rule at_rule from [] each = refl
by_rule w rule at_rule from (a ∷ left) each =
    let here = at_pair w rule (from, a) at_rule (each (from, a) (inl refl)) in
    let later = by_rule w rule at_rule (from + 1) left (λ b h. each b (inr h)) in
    grind (arith, common_steps, cases_Bool, here, later)

-- what numbered items give may be joined in one step or in two
joined : {X Y Z : Type 0} (f : ℕ × X → List Z) (g : Y → List Z) (h : ℕ × X → List Y) (from : ℕ)
    (xs : List X)
    → ((p : ℕ × X) → IsIn (enumerate_from from xs) p → flat_map g (h p) ≡ f p)
    → flat_map g (flat_map h (enumerate_from from xs)) ≡ flat_map f (enumerate_from from xs)
joined f g h from [] each = refl
joined f g h from (x ∷ xs) each =
    let later = joined f g h (from + 1) xs (λ p i. each p (inr i)) in
    flat_map-append g (h (from, x)) (flat_map h (enumerate_from (from + 1) xs))
    ∙ (λ i. each (from, x) (inl refl) i ++ later i)

pub of_pairs : (w : World)
    → flat_map (placed_by_pair w) (pairs_of w.config.rules w.alerts) ≡ placed_in_equal w
of_pairs w =
    joined
    (λ rule. flat_map (placed_by_alert rule) (filter (λ a. all_hold a rule.1.source) w.alerts))
    (placed_by_pair w) (pairs_of_rule w.alerts) 0 w.config.rules
    (λ rule h. by_rule w rule (item_at w.config.rules rule h) 0 w.alerts (item_at w.alerts))
