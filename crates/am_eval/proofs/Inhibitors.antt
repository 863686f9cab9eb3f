-- A rule and a firing alert inhibit an alert exactly if the pair of them does, so the pairs of a
-- world are enough to look at.
use Rattle.std.proofs.Common.{◌≡◌, inl, inr, ℕ, ◌+◌, ◌<◌, List, [], ◌∷◌, Some, Bool, arith, rules}
use Rattle.std.proofs.Common.{false, length, get_or, cond, Contains, map, refl, sym, ap, ◌∙◌}
use Rattle.std.specs.Prelude.{slice_get, IsTrue}
use Rattle.std.specs.List.{filter, flat_map, enumerate_from}
use Rattle.std.proofs.lemmas.Bool.{and_parts}
use Rattle.std.proofs.lemmas.List.{map-append}
use Rattle.std.proofs.lemmas.List.Elements.{filter-append}
use Rattle.std.proofs.lemmas.Option.{get_or_from_slice_get, same_Some, slice_get_within}
use Rattle.std.proofs.lemmas.Grind.{common_steps}
use Rattle.am_universe.specs.LabelSet.{LabelMap}
use Rattle.am_universe.proofs.ListLemmas.{IsIn, IsIn-from_Contains}
use Rattle.am_labels.specs.Matcher.{all_hold}
use Rattle.am_config.specs.ConfigFile.{Rule}
use Rattle.am_eval.specs.declared.pair.Pair.{Pair}
use Rattle.am_eval.specs.World.{World}
use Rattle.am_eval.specs.Silencing.{positions_where}
use Rattle.am_eval.specs.Pairs.{pair_of, pairs_of}
use Rattle.am_eval.specs.Inhibition.{inhibits, inhibitors}
use Rattle.am_eval.specs.Inhibition.{pair_inhibits}
use Rattle.am_universe.proofs.Members.{item_at}
use Rattle.am_eval.proofs.PairLemmas.{is_pair, pair_is}

-- ---- By pairs.

pub at_pair : (w : World) (s : LabelMap) (rule : Rule) (firing : LabelMap) (pair : Pair)
    → slice_get w.config.rules pair.rule ≡ Some rule → slice_get w.alerts pair.alert ≡ Some firing
    → pair_inhibits w s pair ≡ inhibits rule firing s
at_pair w s rule firing pair at_rule at_alert = rw (at_rule, at_alert) refl

abbrev pub all_pairs : World → List Pair
all_pairs w = pairs_of w.config.rules w.alerts

-- an alert that the source side of a rule does not match inhibits nothing by it
unmatched : (rule : Rule) (a s : LabelMap) → all_hold a rule.source ≡ false
    → inhibits rule a s ≡ false
unmatched rule a s e = rw e refl

matched : (rule : Rule) (a s : LabelMap) → IsTrue (inhibits rule a s)
    → IsTrue (all_hold a rule.source)
matched rule a s h = grind (arith, common_steps, and_parts)

-- a rule and an alert that inhibits by it are a pair
pub inhibiting_pair : (w : World) (s : LabelMap) (i j : ℕ) (rule : Rule) (firing : LabelMap)
    → slice_get w.config.rules i ≡ Some rule → slice_get w.alerts j ≡ Some firing
    → IsTrue (inhibits rule firing s)
    → (both : Bool) × IsIn (all_pairs w) (record { rule = i; alert = j; both = both })
    × IsTrue (pair_inhibits w s (record { rule = i; alert = j; both = both }))
inhibiting_pair w s i j rule firing at_rule at_alert h =
    let both = all_hold firing rule.target in
    let pair : Pair = record { rule = i; alert = j; both = both } in (
      both,
      pair_is w.config.rules w.alerts pair
          (rule, firing, at_rule, at_alert, matched rule firing s h, refl),
      at_pair w s rule firing pair at_rule at_alert ∙ h,
    )

-- ---- A pair's rule and alert, as they are read.

pub rule_within : (w : World) (rules : List Rule) (pair : Pair) → Contains (all_pairs w) pair
    → rules ≡ w.config.rules → pair.rule < length rules
rule_within w rules pair h e =
    let p = is_pair w.config.rules w.alerts pair (IsIn-from_Contains (all_pairs w) pair h) in
    rw e (slice_get_within w.config.rules pair.rule p.0 p.2)

pub alert_within : (w : World) (alerts : List LabelMap) (pair : Pair) → Contains (all_pairs w) pair
    → alerts ≡ w.alerts → pair.alert < length alerts
alert_within w alerts pair h e =
    let p = is_pair w.config.rules w.alerts pair (IsIn-from_Contains (all_pairs w) pair h) in
    rw e (slice_get_within w.alerts pair.alert p.1 p.3)

-- what is known of a rule and a firing alert that are read by the positions of a pair
abbrev pub IsRead : World → Pair → Rule → LabelMap → Type 0
IsRead w pair rule firing =
    IsTrue (all_hold firing rule.source) × (pair.both ≡ all_hold firing rule.target)
    × ((s : LabelMap) → inhibits rule firing s ≡ pair_inhibits w s pair)

pub read_pair : (w : World) (rules : List Rule) (alerts : List LabelMap) (pair : Pair) (rule : Rule)
    (firing : LabelMap) → Contains (all_pairs w) pair → rules ≡ w.config.rules
    → alerts ≡ w.alerts → rule ≡ get_or rules pair.rule rule
    → slice_get alerts pair.alert ≡ Some firing → IsRead w pair rule firing
read_pair w rules alerts pair rule firing h e f at_rule at_alert =
    let p = is_pair w.config.rules w.alerts pair (IsIn-from_Contains (all_pairs w) pair h) in
    let same_rule : p.0 ≡ rule =
    sym (at_rule ∙ get_or_from_slice_get rules pair.rule p.0 rule
    (ap (λ xs. slice_get xs pair.rule) e ∙ p.2)) in
    let same_alert : p.1 ≡ firing =
    same_Some p.1 firing (sym p.3 ∙ (ap (λ xs. slice_get xs pair.alert) (sym f) ∙ at_alert)) in
    rw (← same_rule, ← same_alert)
    (p.4, p.5, λ s. sym (at_pair w s p.0 p.1 pair p.2 p.3))

-- ---- The inhibitors are those of the pairs.

-- a position and its pair are both kept, or neither is
one_kept : {X Y Z : Type 0} (source muted : Bool) (test : Y → Bool) (f : ℕ → Z) (g : Y → Z)
    (h : X → Y) (i : ℕ) (x : X) (is : List ℕ) (xs : List X)
    → map f is ≡ map g (filter test (map h xs)) → f i ≡ g (h x) → test (h x) ≡ muted
    → (source ≡ false → muted ≡ false)
    → map f (cond muted (i ∷ is) is) ≡ map g (filter test (map h (cond source (x ∷ xs) xs)))
one_kept source muted test f g h i x is xs later here passes only = grind (arith, common_steps)

abbrev pub position : Pair → ℕ × ℕ
position pair = (pair.rule, pair.alert)

by_rule : (w : World) (s : LabelMap) (rule : ℕ × Rule)
    → slice_get w.config.rules rule.0 ≡ Some rule.1 → (from : ℕ) (alerts : List LabelMap)
    → ((alert : ℕ × LabelMap) → IsIn (enumerate_from from alerts) alert
    → slice_get w.alerts alert.0 ≡ Some alert.1)
    → map (λ i. (rule.0, i)) (positions_where (λ a. inhibits rule.1 a s) from alerts)
    ≡ map position (filter (pair_inhibits w s) (map (pair_of rule)
    (filter (λ alert. all_hold alert.1 rule.1.source) (enumerate_from from alerts))))
by_rule w s rule at_rule from [] each = refl
by_rule w s rule at_rule from (a ∷ alerts) each =
    let at_alert = each (from, a) (inl refl) in
    let passes : pair_inhibits w s (pair_of rule (from, a)) ≡ inhibits rule.1 a s =
    at_pair w s rule.1 a (pair_of rule (from, a)) at_rule at_alert in
    let later = by_rule w s rule at_rule (from + 1) alerts (λ alert h. each alert (inr h)) in
    grind (arith, common_steps, one_kept, unmatched)

joined_kept : {X Y Z : Type 0} (test : Y → Bool) (f : X → List Z) (g : Y → Z) (h : X → List Y)
    (xs : List X) → ((x : X) → IsIn xs x → f x ≡ map g (filter test (h x)))
    → flat_map f xs ≡ map g (filter test (flat_map h xs))
joined_kept test f g h [] each = refl
joined_kept test f g h (x ∷ xs) each =
    let later = joined_kept test f g h xs (λ y i. each y (inr i)) in
    rw (each x (inl refl), later, filter-append test (h x) (flat_map h xs), map-append) refl

pub inhibitors_of_pairs : (w : World) (s : LabelMap)
    → inhibitors w s ≡ map position (filter (pair_inhibits w s) (all_pairs w))
inhibitors_of_pairs w s = search (rules, joined_kept, by_rule, item_at)
