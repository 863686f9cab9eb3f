-- Pairs of rules and firing alerts: which there are, and their order.
use Rattle.std.proofs.Common.{◌≡◌, ◌↔◌, ℕ, ◌+◌, ◌<◌, Bool, List, [], ◌∷◌, Some, Contains, map, subst}
use Rattle.std.proofs.Common.{ap, sym, ◌∙◌, refl, arith}
use Rattle.std.specs.Prelude.{slice_get, IsTrue}
use Rattle.std.specs.Cmp.Lexicographic.{slice_cmp}
use Rattle.std.specs.List.{flat_map, filter, enumerate_from}
use Rattle.std.specs.List.Sorted.{IsStrictlySortedBy}
use Rattle.std.specs.Ordering.{nat_cmp, ordering_then}
use Rattle.std.specs.declared.cmp.Ordering.{Ordering}
use Rattle.std.specs.declared.cmp.Ordering.TheVariants.{Less, Equal, Greater}
use Rattle.std.proofs.lemmas.List.Kept.{IsStrictlySortedBy-filter}
use Rattle.std.proofs.lemmas.Grind.{common_steps}
use Rattle.am_universe.specs.LabelSet.{LabelMap}
use Rattle.am_universe.proofs.ChoiceLemmas.{same_first, less_first}
use Rattle.am_universe.proofs.ListLemmas.{IsIn, IsIn-from_Contains, Contains-from_IsIn, IsIn-map}
use Rattle.am_universe.proofs.ListLemmas.{IsIn-unmap, AllByRecursion-each, IsStrictlySortedBy-append}
use Rattle.am_universe.proofs.ListLemmas.{IsStrictlySortedBy-map}
use Rattle.am_labels.specs.Matcher.{all_hold}
use Rattle.am_config.specs.ConfigFile.{Rule}
use Rattle.am_eval.specs.declared.pair.Pair.{Pair}
use Rattle.am_eval.specs.Pairs.{pair_of, pairs_of_rule, pairs_of}
use Rattle.am_labels.proofs.Passing.{passes_from_kept, kept_from_passes}
use Rattle.am_universe.proofs.Members.{is_numbered, item_at, numbered_at, in_joined, joined_in}

-- ---- Which there are.

-- a pair of a rule and an alert that its source side matches
abbrev pub IsPair : List Rule → List LabelMap → Pair → Type 0
IsPair rules alerts pair =
    (rule : Rule) × (firing : LabelMap) × (slice_get rules pair.rule ≡ Some rule)
    × (slice_get alerts pair.alert ≡ Some firing) × IsTrue (all_hold firing rule.source)
    × (pair.both ≡ all_hold firing rule.target)

abbrev pub fires : ℕ × Rule → ℕ × LabelMap → Bool
fires rule alert = all_hold alert.1 rule.1.source

pub is_pair : (rules : List Rule) (alerts : List LabelMap) (pair : Pair)
    → IsIn (pairs_of rules alerts) pair → IsPair rules alerts pair
is_pair rules alerts pair h =
    let of_rule = in_joined (pairs_of_rule alerts) (enumerate_from 0 rules) pair h in
    let rule = of_rule.0 in
    let all = enumerate_from 0 alerts in
    let one = IsIn-unmap (pair_of rule) (filter (fires rule) all) pair of_rule.2 in
    let kept = passes_from_kept (fires rule) all one.0 one.1 in
    subst (λ (p : Pair). IsPair rules alerts p) one.2
    (rule.1, one.0.1, item_at rules rule of_rule.1, item_at alerts one.0 kept.0, kept.1, refl)

pub pair_is : (rules : List Rule) (alerts : List LabelMap) (pair : Pair) → IsPair rules alerts pair
    → IsIn (pairs_of rules alerts) pair
pair_is rules alerts pair h =
    let rule : ℕ × Rule = (pair.rule, h.0) in
    let alert : ℕ × LabelMap = (pair.alert, h.1) in
    let all = enumerate_from 0 alerts in
    let there = numbered_at 0 alerts pair.alert h.1 h.3 pair.alert (omega arith) in
    let kept = kept_from_passes (fires rule) all alert there h.4 in
    let made = IsIn-map (pair_of rule) (filter (fires rule) all) alert kept in
    let same : pair_of rule alert ≡ pair =
    λ i. record { rule = pair.rule; alert = pair.alert; both = sym h.5 i } in
    joined_in (pairs_of_rule alerts) (enumerate_from 0 rules) rule pair
    (numbered_at 0 rules pair.rule h.0 h.2 pair.rule (omega arith))
    (subst (λ (p : Pair). IsIn (pairs_of_rule alerts rule) p) same made)

pub exactly : (rules : List Rule) (alerts : List LabelMap) (pair : Pair)
    → (Contains (pairs_of rules alerts) pair ↔ IsPair rules alerts pair)
exactly rules alerts pair = grind (arith, common_steps, is_pair, IsIn-from_Contains, Contains-from_IsIn, pair_is)

-- ---- Their order.

abbrev pub Numbers : {X : Type 0} → ℕ × X → ℕ × X → Ordering
Numbers p q = nat_cmp p.0 q.0

pub numbers_ascend : {X : Type 0} (from : ℕ) (xs : List X)
    → IsStrictlySortedBy Numbers (enumerate_from from xs)
unfolding IsStrictlySortedBy
numbers_ascend from [] = tt
numbers_ascend from (x ∷ xs) =
    grind (arith, common_steps, AllByRecursion-each, is_numbered, numbers_ascend (from + 1) xs)

-- lists of numbered items, joined end to end, ascend if each list does and is below the later ones
joined_ascend : {X Y : Type 0} (R : Y → Y → Ordering) (f : ℕ × X → List Y)
    → ((p : ℕ × X) → IsStrictlySortedBy R (f p))
    → ((p q : ℕ × X) (a b : Y) → p.0 < q.0 → IsIn (f p) a → IsIn (f q) b → R a b ≡ Less)
    → (from : ℕ) (xs : List X) → IsStrictlySortedBy R (flat_map f (enumerate_from from xs))
unfolding IsStrictlySortedBy
joined_ascend R f each below from [] = tt
joined_ascend R f each below from (x ∷ xs) =
    grind (arith, common_steps, IsStrictlySortedBy-append, joined_ascend R f each below (from + 1) xs, in_joined, is_numbered)

alone_after : (o : Ordering) → ordering_then o Equal ≡ o
alone_after Less = refl
alone_after Equal = refl
alone_after Greater = refl

-- pairs are in the order of their positions
abbrev pub key : Pair → List ℕ
key pair = pair.rule ∷ pair.alert ∷ []

abbrev pub Keys : Pair → Pair → Ordering
Keys p q = slice_cmp nat_cmp (key p) (key q)

rule_of : (alerts : List LabelMap) (rule : ℕ × Rule) (pair : Pair)
    → IsIn (pairs_of_rule alerts rule) pair → rule.0 ≡ pair.rule
rule_of alerts rule pair h =
    let all = enumerate_from 0 alerts in
    ap (λ (p : Pair). p.rule) (IsIn-unmap (pair_of rule) (filter (fires rule) all) pair h).2

pub pairs_ascend : (rules : List Rule) (alerts : List LabelMap)
    → IsStrictlySortedBy Keys (pairs_of rules alerts)
pairs_ascend rules alerts =
    let all = enumerate_from 0 alerts in
    joined_ascend Keys (pairs_of_rule alerts)
    (λ rule.
    IsStrictlySortedBy-map Numbers Keys (pair_of rule) (filter (fires rule) all)
    (λ a b. same_first rule.0 (a.0 ∷ []) (b.0 ∷ []) ∙ alone_after (nat_cmp a.0 b.0))
    (IsStrictlySortedBy-filter Numbers (fires rule) all (numbers_ascend 0 alerts)))
    (λ p q a b less i j.
    let below : a.rule < b.rule = omega (arith, less, rule_of alerts p a i, rule_of alerts q b j) in
    less_first a.rule b.rule (a.alert ∷ []) (b.alert ∷ []) below) 0 rules

pub ascending : (rules : List Rule) (alerts : List LabelMap)
    → IsStrictlySortedBy (slice_cmp nat_cmp) (map key (pairs_of rules alerts))
ascending rules alerts =
    IsStrictlySortedBy-map Keys (slice_cmp nat_cmp) key (pairs_of rules alerts)
    (λ p q. refl) (pairs_ascend rules alerts)
