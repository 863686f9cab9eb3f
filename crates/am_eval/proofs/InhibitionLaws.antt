-- What holds of inhibition: which alerts are muted, and by which rules and alerts.
use Rattle.std.proofs.Common.{◌≡◌, ◌≢◌, ◌↔◌, ℕ, List, [], ◌∷◌, Some, Bool, arith}
use Rattle.std.proofs.Common.{true, false, ◌&&◌, not, Contains, map, refl, sym, subst, ◌∙◌}
use Rattle.std.specs.Prelude.{slice_get, IsTrue, IsFalse}
use Rattle.std.specs.Cmp.Lexicographic.{slice_cmp}
use Rattle.std.specs.List.{AllByRecursion, filter, list_any}
use Rattle.std.specs.List.Sorted.{IsStrictlySortedBy}
use Rattle.std.specs.Ordering.{nat_cmp}
use Rattle.std.specs.declared.cmp.Ordering.{Ordering}
use Rattle.std.proofs.lemmas.Bool.{and_parts}
use Rattle.std.proofs.lemmas.List.Kept.{IsStrictlySortedBy-filter}
use Rattle.std.proofs.lemmas.Slice.Eq.{bytes_eq-Decides}
use Rattle.std.proofs.lemmas.Grind.{common_steps}
use Rattle.am_universe.specs.LabelSet.{LabelMap, value_of}
use Rattle.am_universe.specs.Text.{same_text}
use Rattle.am_universe.proofs.ListLemmas.{IsIn, IsIn-from_Contains, Contains-from_IsIn, IsIn-map}
use Rattle.am_universe.proofs.ListLemmas.{IsIn-unmap, IsStrictlySortedBy-map}
use Rattle.am_universe.proofs.Members.{at_in, in_at}
use Rattle.am_labels.specs.Matcher.{all_hold}
use Rattle.am_config.specs.ConfigFile.{Rule}
use Rattle.am_eval.specs.declared.pair.Pair.{Pair}
use Rattle.am_eval.specs.World.{World}
use Rattle.am_eval.specs.Inhibition.{have_equal, inhibits, is_inhibited, inhibitors}
use Rattle.am_eval.specs.Inhibition.{pair_inhibits}
use Rattle.am_labels.proofs.Passing.{passes_from_kept, kept_from_passes}
use Rattle.am_eval.proofs.PairLemmas.{is_pair, Keys, pairs_ascend}
use Rattle.am_eval.proofs.Inhibitors.{all_pairs, at_pair, inhibiting_pair}
use Rattle.am_eval.proofs.Inhibitors.{position, inhibitors_of_pairs}
use Rattle.am_eval.proofs.ListTests.{all_exactly, one_of}
use Rattle.am_eval.proofs.SimpleParts.{some_inhibits}

-- ---- By a rule.

equal_exactly : (names : List (List ℕ)) (a s : LabelMap) → IsTrue (have_equal names a s)
    ↔ AllByRecursion (λ name. value_of a name ≡ value_of s name) names
equal_exactly names a s =
    all_exactly (λ name. same_text (value_of a name) (value_of s name)) _
    (λ name. bytes_eq-Decides (value_of a name) (value_of s name)) names

not_both : (both other : Bool) → (both ≡ true → other ≡ true → ⊥)
    → not (both && (other && true)) ≡ true
not_both both other h = grind (arith, common_steps)

pub as_the_rule_says : (rule : Rule) (firing s : LabelMap) → (IsTrue (inhibits rule firing s)
    ↔ (IsTrue (all_hold firing rule.source) × IsTrue (all_hold s rule.target)
    × AllByRecursion (λ name. value_of firing name ≡ value_of s name) rule.equal
    × (IsTrue (all_hold firing rule.target) → IsTrue (all_hold s rule.source) → ⊥)))
as_the_rule_says rule firing s = grind (arith, common_steps, and_parts, equal_exactly, not_both)

-- ---- Inhibitors.

abbrev by_pairs : World → LabelMap → List Pair
by_pairs w s = filter (pair_inhibits w s) (all_pairs w)

is_inhibitor : (w : World) (s : LabelMap) (pair : Pair) → IsIn (all_pairs w) pair
    → IsTrue (pair_inhibits w s pair) → IsIn (inhibitors w s) (position pair)
is_inhibitor w s pair there passes =
    let kept = kept_from_passes (pair_inhibits w s) (all_pairs w) pair there passes in
    subst (λ (found : List (ℕ × ℕ)). IsIn found (position pair)) (sym (inhibitors_of_pairs w s))
    (IsIn-map position (by_pairs w s) pair kept)

-- each inhibitor is made of a pair
of_pair : (w : World) (s : LabelMap) (found : ℕ × ℕ) → IsIn (inhibitors w s) found
    → (pair : Pair) × (position pair ≡ found) × IsIn (all_pairs w) pair
    × IsTrue (pair_inhibits w s pair)
of_pair w s found h =
    grind (arith, common_steps, IsIn-unmap, position, inhibitors_of_pairs, passes_from_kept, all_pairs)

abbrev IsInhibitor : World → LabelMap → ℕ → ℕ → Type 0
IsInhibitor w s i j =
    (rule : Rule) × (firing : LabelMap) × (slice_get w.config.rules i ≡ Some rule)
    × (slice_get w.alerts j ≡ Some firing) × IsTrue (inhibits rule firing s)

pub exactly : (w : World) (s : LabelMap) (i j : ℕ)
    → (Contains (inhibitors w s) (i, j) ↔ IsInhibitor w s i j)
exactly w s i j = (
  λ h.
      let p = of_pair w s (i, j) (IsIn-from_Contains (inhibitors w s) (i, j) h) in
      let q = is_pair w.config.rules w.alerts p.0 p.2 in
      let muted : inhibits q.0 q.1 s ≡ true = sym (at_pair w s q.0 q.1 p.0 q.2 q.3) ∙ p.3 in
      subst (λ (found : ℕ × ℕ). IsInhibitor w s found.0 found.1) p.1 (q.0, q.1, q.2, q.3, muted),
  λ h.
      let pair = inhibiting_pair w s i j h.0 h.1 h.2 h.3 h.4 in
      Contains-from_IsIn (inhibitors w s) (i, j)
      (is_inhibitor w s (record { rule = i; alert = j; both = pair.0 }) pair.1 pair.2),
)

pub some : (w : World) (s : LabelMap) → IsTrue (is_inhibited w s) ↔ (inhibitors w s ≢ [])
some w s =
    let rules = w.config.rules in (
      λ muted none.
          let h = (some_inhibits w s).0 muted in
          let i = at_in rules h.0 (IsIn-from_Contains rules h.0 h.2) in
          let j = at_in w.alerts h.1 (IsIn-from_Contains w.alerts h.1 h.3) in
          let there = (exactly w s i.0 j.0).1 (h.0, h.1, i.1, j.1, h.4) in
          IsIn-from_Contains [] (i.0, j.0)
          (subst (λ (found : List (ℕ × ℕ)). Contains found (i.0, j.0)) none there),
      λ found.
          let one = one_of (inhibitors w s) found in
          let found_there = Contains-from_IsIn (inhibitors w s) one.0 one.1 in
          let h = (exactly w s one.0.0 one.0.1).0 found_there in
          let rule = Contains-from_IsIn rules h.0 (in_at rules one.0.0 h.0 h.2) in
          let firing = Contains-from_IsIn w.alerts h.1 (in_at w.alerts one.0.1 h.1 h.3) in
          (some_inhibits w s).1 (h.0, h.1, rule, firing, h.4),
    )

-- inhibitors are in the order of their positions
abbrev listed : ℕ × ℕ → List ℕ
listed found = found.0 ∷ found.1 ∷ []

abbrev Positions : ℕ × ℕ → ℕ × ℕ → Ordering
Positions p q = slice_cmp nat_cmp (listed p) (listed q)

pub ascending : (w : World) (s : LabelMap)
    → IsStrictlySortedBy (slice_cmp nat_cmp) (map listed (inhibitors w s))
ascending w s =
    let sorted = IsStrictlySortedBy-filter Keys (pair_inhibits w s) (all_pairs w)
    (pairs_ascend w.config.rules w.alerts) in
    let found = map position (by_pairs w s) in
    rw (inhibitors_of_pairs w s)
    (IsStrictlySortedBy-map Positions (slice_cmp nat_cmp) listed found (λ p q. refl)
    (IsStrictlySortedBy-map Keys Positions position (by_pairs w s) (λ p q. refl) sorted))

-- ---- Where nothing inhibits.

by_none : (rules : List Rule) → IsFalse (list_any (λ (rule : Rule). false) rules)
by_none [] = refl
by_none (rule ∷ rules) = by_none rules

pub no_alerts : (w : World) (s : LabelMap) → w.alerts ≡ [] → IsFalse (is_inhibited w s)
no_alerts w s e = rw e (by_none w.config.rules)
