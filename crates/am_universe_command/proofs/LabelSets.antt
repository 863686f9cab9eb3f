-- The number of label sets, one label after another.
use Rattle.std.proofs.Common.{◌≡◌, ◌≤◌, ◌<◌, ◌+◌, ◌*◌, ℕ, zero, suc, List, [], ◌∷◌, Some, take, slice_get, refl, sym, ap, ◌∙◌, arith, add-one, inl, inr}
use Rattle.std.proofs.lemmas.Bool.{cases_lt}
use Rattle.std.specs.List.{AllByRecursion}
use Rattle.std.proofs.Math.Nat.{mul-le-mul_left}
use Rattle.am_universe.specs.Universe.{Label, IsLabel, sizes}
use Rattle.am_universe_command.specs.CheckLines.{label_sets}

more : (ns : List ℕ) (i n : ℕ) → slice_get ns i ≡ Some n
    → label_sets (take (suc i) ns) ≡ label_sets (take i ns) * n
more [] i n e = cc
more (m ∷ ns) zero n e = let same : m ≡ n = cc in grind (arith, same)
more (m ∷ ns) (suc i) n e =
    let h : label_sets (take (suc i) ns) ≡ label_sets (take i ns) * n = more ns i n e in
    ap (λ k. m * k) h ∙ grind arith

pub one_size_more : (ns : List ℕ) (i n before now : ℕ) → slice_get ns i ≡ Some n
    → before ≡ label_sets (take i ns) → now ≡ before * n → now ≡ label_sets (take (i + 1) ns)
one_size_more ns i n before now at so_far product =
    product ∙ ap (λ k. k * n) so_far ∙ sym (more ns i n at) ∙ ap (λ k. label_sets (take k ns)) (sym (add-one i))

abbrev ArePositive : List ℕ → Type 0
ArePositive ns = AllByRecursion (λ n. 0 < n) ns

at_least_one : (ns : List ℕ) → ArePositive ns → 1 ≤ label_sets ns
at_least_one [] h = omega arith
at_least_one (n ∷ ns) h =
    let rest = at_least_one ns h.1 in
    let product = mul-le-mul_left n rest in
    omega (arith, h.0, product)

front_at_most : (ns : List ℕ) (k : ℕ) → ArePositive ns → label_sets (take k ns) ≤ label_sets ns
front_at_most [] zero h = omega arith
front_at_most [] (suc k) h = omega arith
front_at_most (n ∷ ns) zero h = at_least_one (n ∷ ns) h
front_at_most (n ∷ ns) (suc k) h = mul-le-mul_left n (front_at_most ns k h.1)

positive_sizes : (u : List Label) → AllByRecursion IsLabel u → ArePositive (sizes u)
positive_sizes [] h = tt
positive_sizes (l ∷ u) h = (h.0.some_value, positive_sizes u h.1)

pub too_many : (u : List Label) (i n before most : ℕ) → AllByRecursion IsLabel u
    → slice_get (sizes u) i ≡ Some n → before ≡ label_sets (take i (sizes u)) → (before * n < most → ⊥)
    → most ≤ label_sets (sizes u)
too_many u i n before most labels at so_far product =
    let now = one_size_more (sizes u) i n before (before * n) at so_far refl in
    let front = front_at_most (sizes u) (i + 1) (positive_sizes u labels) in
    elim (cases_lt (before * n) most) [
      | inl small ↦ absurd (product small)
      | inr large ↦ omega (arith, now, front, large)
    ]
