-- Literals that follow from others lose their names, and no choice notices.
use Rattle.std.proofs.Common.{◌≡◌, ◌≤◌, ◌+◌, ℕ, zero, suc, List, [], ◌∷◌, ◌++◌, Bool, true, false}
use Rattle.std.proofs.Common.{not, ◌||◌, ◌&&◌, cond, Some, IsTrue, refl, sym, ap, ◌∙◌, subst}
use Rattle.std.proofs.Common.{inl, inr, arith, length, set, take}
use Rattle.std.specs.Prelude.{slice_get}
use Rattle.std.proofs.lemmas.Bool.{and_parts, and_from, both_ways, cases_Bool, or_right}
use Rattle.std.proofs.lemmas.Bool.{false_from_ne_true}
use Rattle.std.proofs.lemmas.List.Folds.{list_all-append}
use Rattle.std.proofs.lemmas.Option.{slice_get_within}
use Rattle.std.proofs.Math.Nat.{eq-or-lt_of_le}
use Rattle.am_judged_lists.specs.Cube.{matches}
use Rattle.am_first_sets.specs.declared.candidate.Candidate.{Candidate}
use Rattle.am_first_sets.specs.Literals.{holds_at, meets, IsMet, IsUnmet}
use Rattle.am_first_sets.specs.Reason.{AreFewer, AreNamedBefore, without}
use Rattle.am_first_sets.proofs.ReasonLemmas.{fewer_itself, fewer_through, fewer_without, fewer_at}
use Rattle.am_first_sets.proofs.ReasonLemmas.{fewer_is_met, met_at, named_less, unnamed_at}
use Rattle.am_route_alerts.specs.Implied.{negated, IsSameFor, IsEachNeeded}

-- ---- A literal and its opposite.

abbrev pub opposite : Candidate → Candidate
opposite k = record k { wanted = not k.wanted }

pub opposite_holds : (c : List ℕ) (k : Candidate)
    → holds_at c (opposite k) ≡ not (holds_at c k)
opposite_holds c k = turned k.wanted (matches k.cube.now c)
  where
    turned : (wanted m : Bool) → cond (not wanted) m (not m) ≡ not (cond wanted m (not m))
    turned true m = refl
    turned false true = refl
    turned false false = refl

pub negated_is_set : (i : ℕ) (ks : List Candidate) (k : Candidate) → slice_get ks i ≡ Some k
    → set ks i (opposite k) ≡ negated i ks
negated_is_set i [] k at = absurd (cc)
negated_is_set zero (l ∷ ks) k at =
    let is : k ≡ l = cc in ap (λ (x : Candidate). opposite x ∷ ks) is
negated_is_set (suc i) (l ∷ ks) k at = ap (λ rest. l ∷ rest) (negated_is_set i ks k at)

pub fewer_negated : (i : ℕ) (ks ls : List Candidate) → AreFewer ks ls
    → AreFewer (negated i ks) (negated i ls)
fewer_negated i [] [] h = tt
fewer_negated zero (k ∷ ks) (l ∷ ls) h = ((h.0.0, ap not h.0.1, h.0.2, h.0.3), h.1)
fewer_negated (suc i) (k ∷ ks) (l ∷ ls) h = (h.0, fewer_negated i ks ls h.1)
fewer_negated i ks ls h = absurd h

-- ---- A literal that follows from the others.

-- where it is true, it does not matter whether it is named
true_without : (c : List ℕ) (i : ℕ) (ks : List Candidate) (k : Candidate)
    → slice_get ks i ≡ Some k → holds_at c k ≡ true → meets c (without i ks) ≡ meets c ks
true_without c i [] k at holds = refl
true_without c zero (l ∷ ks) k at holds =
    let is : l ≡ k = cc in
    ap (λ b. b && meets c ks)
    (sym (or_right (not l.named) (holds_at c l) (ap (holds_at c) is ∙ holds)))
true_without c (suc i) (l ∷ ks) k at holds =
    ap (λ b. (not l.named || holds_at c l) && b) (true_without c i ks k at holds)

-- where it is false, its opposite asks for no more than the others
pub false_negated : (c : List ℕ) (i : ℕ) (ks : List Candidate) (k : Candidate)
    → slice_get ks i ≡ Some k → holds_at c k ≡ false
    → meets c (negated i ks) ≡ meets c (without i ks)
false_negated c i [] k at fails = refl
false_negated c zero (l ∷ ks) k at fails =
    let is : l ≡ k = cc in
    ap (λ b. b && meets c ks)
    (or_right (not l.named) (holds_at c (opposite l))
    (opposite_holds c l ∙ ap not (ap (holds_at c) is ∙ fails)))
false_negated c (suc i) (l ∷ ks) k at fails =
    ap (λ b. (not l.named || holds_at c l) && b) (false_negated c i ks k at fails)

-- a choice that does not meet the others and its opposite meets it if it meets the others
pub same_without : (c : List ℕ) (i : ℕ) (ks : List Candidate) (k : Candidate)
    → slice_get ks i ≡ Some k → k.named ≡ true → meets c (negated i ks) ≡ false
    → meets c (without i ks) ≡ meets c ks
same_without c i ks k at named none = elim (cases_Bool (holds_at c k)) [
  | inl holds ↦ true_without c i ks k at holds
  | inr fails ↦
      sym (false_negated c i ks k at fails) ∙ none
      ∙ sym (false_from_ne_true (meets c ks) (λ met.
      both_ways (holds_at c k) fails (met_at c ks i k met at named)))
]

-- ---- A search that looks only at the first literals and the opposite.

few_met : (c : List ℕ) (from i : ℕ) (ks : List Candidate) (k : Candidate)
    → slice_get ks i ≡ Some k → from ≤ i → meets c (negated i ks) ≡ true
    → meets c (take from ks ++ opposite k ∷ []) ≡ true
few_met c from i [] k at le met = absurd (cc)
few_met c zero zero (l ∷ ks) k at le met =
    let is : l ≡ k = cc in
    let parts = and_parts (not l.named || holds_at c (opposite l)) (meets c ks) met in
    subst (λ (x : Candidate). meets c (opposite x ∷ []) ≡ true) is
    (and_from (not l.named || holds_at c (opposite l)) true parts.0 refl)
few_met c zero (suc i) (l ∷ ks) k at le met =
    few_met c zero i ks k at (omega arith)
    (and_parts (not l.named || holds_at c l) (meets c (negated i ks)) met).1
few_met c (suc from) zero (l ∷ ks) k at le met = absurd (omega (arith, le))
few_met c (suc from) (suc i) (l ∷ ks) k at le met =
    let parts = and_parts (not l.named || holds_at c l) (meets c (negated i ks)) met in
    and_from (not l.named || holds_at c l) (meets c (take from ks ++ opposite k ∷ [])) parts.0
    (few_met c from i ks k at (omega (arith, le)) parts.1)

pub few_unmet : (Is : List ℕ → Type 0) (from i : ℕ) (ks : List Candidate) (k : Candidate)
    → slice_get ks i ≡ Some k → from ≤ i → IsUnmet Is (take from ks ++ opposite k ∷ [])
    → IsUnmet Is (negated i ks)
few_unmet Is from i ks k at le none c is =
    false_from_ne_true (meets c (negated i ks)) (λ met.
    both_ways (meets c (take from ks ++ opposite k ∷ [])) (none c is)
    (few_met c from i ks k at le met))

-- ---- What was looked at is needed.

pub needed_more : (Is : List ℕ → Type 0) (i : ℕ) (ks : List Candidate)
    → ((k : Candidate) → slice_get ks i ≡ Some k → IsTrue k.named → IsMet Is (negated i ks))
    → IsEachNeeded Is (i + 1) ks → IsEachNeeded Is i ks
needed_more Is i ks here later j k at le named = elim (eq-or-lt_of_le le) [
  | inl is ↦
      subst (λ n. IsMet Is (negated n ks)) is
      (here k (subst (λ n. slice_get ks n ≡ Some k) (sym is) at) named)
  | inr lt ↦ later j k at (omega (arith, lt)) named
]

-- those behind a literal are so without it, too
pub needed_without : (Is : List ℕ → Type 0) (i : ℕ) (ks : List Candidate)
    → IsEachNeeded Is (i + 1) ks → IsEachNeeded Is i (without i ks)
needed_without Is i ks later =
    needed_more Is i (without i ks)
    (λ k at named. unnamed_at i ks (without i ks) k (fewer_itself (without i ks)) at named)
    (λ j k at le named.
    let r = fewer_at ks (without i ks) j k (fewer_without i ks) at in
    fewer_is_met Is (negated j ks) (negated j (without i ks))
    (fewer_negated j ks (without i ks) (fewer_without i ks)) (later j r.0 r.1 le (r.2 named)))

-- ---- One literal after another, the last one first.

-- what is known once the literals from a position on were looked at
pub record LeavesOut (Is : List ℕ → Type 0) (from i : ℕ) (old new : List Candidate) : Type 0 where
  pub fewer : AreFewer old new
  pub first : AreNamedBefore from old → AreNamedBefore from new
  pub same : IsSameFor Is old new
  pub needed : IsEachNeeded Is i new

pub none_left_out : (Is : List ℕ → Type 0) (from : ℕ) (ks : List Candidate)
    → LeavesOut Is from (length ks) ks ks
none_left_out Is from ks = record {
  fewer = fewer_itself ks;
  first = λ first. first;
  same = λ c is. refl;
  needed = λ i k at le named. let lt = slice_get_within ks i k at in absurd (omega arith);
}

module _ (Is : List ℕ → Type 0) (from i n : ℕ) (old ks : List Candidate) (next : n ≡ i + 1)
    (so : LeavesOut Is from n old ks) where
  later : IsEachNeeded Is (i + 1) ks
  later = subst (λ m. IsEachNeeded Is m ks) next so.needed

  pub one_left_out : (k : Candidate) → slice_get ks i ≡ Some k → k.named ≡ true → from ≤ i
      → IsUnmet Is (negated i ks) → LeavesOut Is from i old (without i ks)
  one_left_out k at named behind none = record {
    fewer = fewer_through old ks (without i ks) so.fewer (fewer_without i ks);
    first = λ first. named_less from i ks behind (so.first first);
    same = λ c is. same_without c i ks k at named (none c is) ∙ so.same c is;
    needed = needed_without Is i ks later;
  }

  pub one_left : ((k : Candidate) → slice_get ks i ≡ Some k → IsTrue k.named
      → IsMet Is (negated i ks)) → LeavesOut Is from i old ks
  one_left here = record {
    fewer = so.fewer;
    first = so.first;
    same = so.same;
    needed = needed_more Is i ks here later;
  }

-- ---- More literals.

-- a choice that meets more literals meets those in front
pub met_in_front : (Is : List ℕ → Type 0) (ks more : List Candidate)
    → IsMet Is (ks ++ more) → IsMet Is ks
met_in_front Is ks more met = (
  met.0,
  met.1,
  (and_parts (meets met.0 ks) (meets met.0 more)
      (sym (list_all-append (λ k. not k.named || holds_at met.0 k) ks more) ∙ met.2)).0,
)
