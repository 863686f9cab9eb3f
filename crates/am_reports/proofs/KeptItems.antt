-- Facts about the items of a list that a test keeps.
use Rattle.std.proofs.Common.{◌≡◌, Bool, true, false, cond, List, [], ◌∷◌, map, length, refl, subst}
use Rattle.std.proofs.Common.{inl}
use Rattle.std.specs.List.{AllByRecursion, IsDistinct, filter}
use Rattle.am_universe.proofs.ListLemmas.{IsIn, IsIn-map, IsIn-unmap, AllByRecursion-each}
use Rattle.am_universe.proofs.ListLemmas.{AllByRecursion-at}
use Rattle.am_labels.proofs.Passing.{passes_from_kept}

-- distinct keys stay distinct if fewer items are kept
module _ {X K : Type 0} (same : K → K → Bool) (key : X → K) (test : X → Bool) where
  other_keys : (P : K → Type 0) (xs : List X) → AllByRecursion P (map key xs)
      → AllByRecursion P (map key (filter test xs))
  other_keys P xs all =
      AllByRecursion-each P (map key (filter test xs)) (λ k i.
      let kept = IsIn-unmap key (filter test xs) k i in
      let there = passes_from_kept test xs kept.0 kept.1 in
      AllByRecursion-at P (map key xs) k all
      (subst (IsIn (map key xs)) kept.2 (IsIn-map key xs kept.0 there.0)))

  one_kept : (b : Bool) (x : X) (ks : List X)
      → AllByRecursion (λ k. same (key x) k ≡ false) (map key ks) → IsDistinct same (map key ks)
      → IsDistinct same (map key (cond b (x ∷ ks) ks))
  unfolding IsDistinct
  one_kept true x ks apart distinct = (apart, distinct)
  one_kept false x ks apart distinct = distinct

  pub distinct_kept : (xs : List X) → IsDistinct same (map key xs)
      → IsDistinct same (map key (filter test xs))
  unfolding IsDistinct
  distinct_kept [] distinct = distinct
  distinct_kept (x ∷ xs) distinct =
      one_kept (test x) x (filter test xs)
      (other_keys (λ k. same (key x) k ≡ false) xs distinct.0) (distinct_kept xs distinct.1)

-- a list without items has length 0
pub without_items : {X : Type 0} (xs : List X) → ((x : X) → IsIn xs x → ⊥) → length xs ≡ 0
without_items [] none = refl
without_items (x ∷ xs) none = absurd (none x (inl refl))
