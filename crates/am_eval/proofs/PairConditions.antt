-- The ways in which firing alerts inhibit are the ways of the pairs of a world, in the same order.
use Rattle.std.proofs.Common.{◌≡◌, inl, inr, ℕ, ◌+◌, List, [], ◌∷◌, Some, map, arith, rules}
use Rattle.std.proofs.Common.{refl}
use Rattle.std.specs.Prelude.{slice_get}
use Rattle.std.specs.List.{filter, flat_map, enumerate_from}
use Rattle.std.proofs.lemmas.Bool.{cases_Bool}
use Rattle.std.proofs.lemmas.List.{map-append}
use Rattle.std.proofs.lemmas.Grind.{common_steps}
use Rattle.am_universe.specs.LabelSet.{LabelMap}
use Rattle.am_universe.proofs.ListLemmas.{IsIn}
use Rattle.am_labels.specs.Matcher.{all_hold}
use Rattle.am_config.specs.ConfigFile.{Rule}
use Rattle.am_eval.specs.World.{World}
use Rattle.am_eval.specs.Pairs.{pair_of, pairs_of}
use Rattle.am_eval.specs.Conditions.{inhibiting_way, inhibiting_ways, pair_way}
use Rattle.am_universe.proofs.Members.{item_at}
use Rattle.am_eval.proofs.PairLemmas.{fires}

at_pair : (rules : List Rule) (alerts : List LabelMap) (rule : ℕ × Rule) (firing : ℕ × LabelMap)
    → slice_get rules rule.0 ≡ Some rule.1 → slice_get alerts firing.0 ≡ Some firing.1
    → pair_way rules alerts (pair_of rule firing) ≡ inhibiting_way rule.1 firing.1
at_pair rules alerts rule firing at_rule at_alert = rw (at_rule, at_alert) refl

by_rule : (rules : List Rule) (alerts : List LabelMap) (rule : ℕ × Rule)
    → slice_get rules rule.0 ≡ Some rule.1 → (from : ℕ) (left : List LabelMap)
    → ((firing : ℕ × LabelMap) → IsIn (enumerate_from from left) firing
    → slice_get alerts firing.0 ≡ Some firing.1)
    → map (pair_way rules alerts)
    (map (pair_of rule) (filter (fires rule) (enumerate_from from left)))
    ≡ map (inhibiting_way rule.1) (filter (λ firing. all_hold firing rule.1.source) left)
by_rule rules alerts rule at_rule from [] each = refl
by_rule rules alerts rule at_rule from (a ∷ left) each =
    let here = at_pair rules alerts rule (from, a) at_rule (each (from, a) (inl refl)) in
    let later = by_rule rules alerts rule at_rule (from + 1) left (λ b h. each b (inr h)) in
    grind (arith, common_steps, cases_Bool, fires)

-- joining what numbered items give is joining what the items alone give
joined : {X Y Z : Type 0} (f : X → List Z) (g : Y → Z) (h : ℕ × X → List Y) (from : ℕ) (xs : List X)
    → ((p : ℕ × X) → IsIn (enumerate_from from xs) p → map g (h p) ≡ f p.1)
    → map g (flat_map h (enumerate_from from xs)) ≡ flat_map f xs
joined f g h from [] each = refl
joined f g h from (x ∷ xs) each = grind (arith, common_steps, joined f g h (from + 1) xs, map-append)

pub ways_of_pairs : (w : World)
    → map (pair_way w.config.rules w.alerts) (pairs_of w.config.rules w.alerts)
    ≡ inhibiting_ways w
ways_of_pairs w = search (rules, joined, by_rule, item_at)
