-- All choices: which they are, and their order.
use Rattle.std.proofs.Common.{◌≡◌, ◌↔◌, ℕ, zero, suc, ◌+◌, ◌<◌, ◌≤◌, true, List, [], ◌∷◌, map, nat_lt, Contains, ap, sym, refl, subst, inl, inr, arith}
use Rattle.std.specs.List.{range_with_len, flat_map}
use Rattle.std.specs.List.Sorted.{IsStrictlySortedBy}
use Rattle.std.specs.Ordering.{nat_cmp, ordering_then}
use Rattle.std.specs.Cmp.{nat_cmp_is}
use Rattle.std.specs.Cmp.Lexicographic.{slice_cmp}
use Rattle.std.specs.declared.cmp.Ordering.TheVariants.{Less, Equal}
use Rattle.std.proofs.lemmas.Bool.{and_parts, and_from}
use Rattle.std.proofs.lemmas.Bool.Decides.{nat_tests}
use Rattle.std.proofs.lemmas.Grind.{common_steps}
use Rattle.std.proofs.Math.Nat.{eq-or-lt_of_le}
use Rattle.am_universe.specs.Choice.{choices, admits, IsWhole}
use Rattle.am_universe.proofs.ListLemmas.{IsIn, IsIn-from_Contains, Contains-from_IsIn, IsIn-left, IsIn-right, IsIn-split, IsIn-map, IsIn-unmap, IsStrictlySortedBy-append, IsStrictlySortedBy-map}

-- Each of the n positions from `first`, followed by each of these choices.
abbrev pub behind : ℕ → ℕ → List (List ℕ) → List (List ℕ)
behind first n cs = flat_map (λ p. map (λ c. p ∷ c) cs) (range_with_len first n)

-- A choice that begins with one of the n positions from `first`, and goes on with one of `cs`.
pub record BeginsWithin (first n : ℕ) (cs : List (List ℕ)) (c : List ℕ) : Type 0 where
  pub position : ℕ
  pub rest : List ℕ
  pub low : first ≤ position
  pub high : position < first + n
  pub others : IsIn cs rest
  pub same : position ∷ rest ≡ c

pub from_behind : (first n : ℕ) (cs : List (List ℕ)) (c : List ℕ) → IsIn (behind first n cs) c → BeginsWithin first n cs c
from_behind first zero cs c h = absurd h
from_behind first (suc n) cs c h = elim (IsIn-split (map (λ c. first ∷ c) cs) (behind (first + 1) n cs) c h) [
  | inl a ↦ let r = IsIn-unmap (λ c. first ∷ c) cs c a in record { position = first; rest = r.0; low = omega arith; high = omega arith; others = r.1; same = r.2 }
  | inr b ↦ let r = from_behind (first + 1) n cs c b in record { position = r.position; rest = r.rest; low = omega (arith, r.low); high = omega (arith, r.high); others = r.others; same = r.same }
]

pub into_behind : (first n : ℕ) (cs : List (List ℕ)) (p : ℕ) (c : List ℕ) → first ≤ p → p < first + n → IsIn cs c → IsIn (behind first n cs) (p ∷ c)
into_behind first zero cs p c low high i = absurd (omega arith)
into_behind first (suc n) cs p c low high i = elim (eq-or-lt_of_le low) [
  | inl e ↦ IsIn-left (map (λ c. first ∷ c) cs) (behind (first + 1) n cs) (p ∷ c) (subst (λ q. IsIn (map (λ c. first ∷ c) cs) (q ∷ c)) e (IsIn-map (λ c. first ∷ c) cs c i))
  | inr l ↦ IsIn-right (map (λ c. first ∷ c) cs) (behind (first + 1) n cs) (p ∷ c) (into_behind (first + 1) n cs p c (omega (arith, l)) (omega arith) i)
]

pub whole_from_in : (sizes c : List ℕ) → IsIn (choices sizes) c → IsWhole sizes c
whole_from_in [] c (inl e) = subst (IsWhole []) e (refl, refl)
whole_from_in [] c (inr h) = absurd h
whole_from_in (n ∷ sizes) c h =
    let r = from_behind 0 n (choices sizes) c h in
    let w = whole_from_in sizes r.rest r.others in
    let below : nat_lt r.position n ≡ true = grind (arith, nat_tests, r.high) in
    subst (IsWhole (n ∷ sizes)) r.same (and_from (nat_lt r.position n) (admits sizes r.rest) below w.0, ap suc w.1)

in_from_whole : (sizes c : List ℕ) → IsWhole sizes c → IsIn (choices sizes) c
in_from_whole [] [] h = inl refl
in_from_whole [] (p ∷ c) h = absurd (omega (arith, h.1))
in_from_whole (n ∷ sizes) [] h = absurd (omega (arith, h.1))
in_from_whole (n ∷ sizes) (p ∷ c) h = grind (arith, common_steps, and_parts, into_behind, in_from_whole sizes c)

pub choices_whole : (sizes c : List ℕ) → (Contains (choices sizes) c ↔ IsWhole sizes c)
choices_whole sizes c = (λ h. whole_from_in sizes c (IsIn-from_Contains (choices sizes) c h), λ h. Contains-from_IsIn (choices sizes) c (in_from_whole sizes c h))

-- ---- Their order.

pub same_first : (p : ℕ) (a b : List ℕ) → slice_cmp nat_cmp (p ∷ a) (p ∷ b) ≡ slice_cmp nat_cmp a b
same_first p a b = ap (λ r. ordering_then r (slice_cmp nat_cmp a b)) (sym (nat_cmp_is p p Equal refl))

pub less_first : (p q : ℕ) (a b : List ℕ) → p < q → slice_cmp nat_cmp (p ∷ a) (q ∷ b) ≡ Less
less_first p q a b h = ap (λ r. ordering_then r (slice_cmp nat_cmp a b)) (sym (nat_cmp_is p q Less h))

pub behind_sorted : (first n : ℕ) (cs : List (List ℕ)) → IsStrictlySortedBy (slice_cmp nat_cmp) cs → IsStrictlySortedBy (slice_cmp nat_cmp) (behind first n cs)
unfolding IsStrictlySortedBy
behind_sorted first zero cs s = tt
behind_sorted first (suc n) cs s = IsStrictlySortedBy-append (slice_cmp nat_cmp) (map (λ c. first ∷ c) cs) (behind (first + 1) n cs)
    (IsStrictlySortedBy-map (slice_cmp nat_cmp) (slice_cmp nat_cmp) (λ c. first ∷ c) cs (same_first first) s)
    (behind_sorted (first + 1) n cs s)
    (λ x y i j.
    let a = IsIn-unmap (λ c. first ∷ c) cs x i in
    let b = from_behind (first + 1) n cs y j in
    subst (λ v. slice_cmp nat_cmp v y ≡ Less) a.2 (subst (λ w. slice_cmp nat_cmp (first ∷ a.0) w ≡ Less) b.same (less_first first b.position a.0 b.rest (omega (arith, b.low)))))

pub choices_sorted : (sizes : List ℕ) → IsStrictlySortedBy (slice_cmp nat_cmp) (choices sizes)
unfolding IsStrictlySortedBy
choices_sorted [] = (tt, tt)
choices_sorted (n ∷ sizes) = behind_sorted 0 n (choices sizes) (choices_sorted sizes)
