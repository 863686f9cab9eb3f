-- The first choice of all that a test is true of.
use Rattle.std.proofs.Common.{◌≡◌, ℕ, zero, suc, ◌+◌, ◌<◌, ◌≤◌, Bool, true, cond, List, [], ◌∷◌, length, map, slice_index, nat_lt, Some, None, refl, ap, ◌∙◌, inl, inr, arith}
use Rattle.std.specs.Prelude.{option_map}
use Rattle.std.specs.List.{find, flat_map, range_with_len}
use Rattle.std.specs.Option.{option_or}
use Rattle.std.proofs.lemmas.Bool.{cases_Bool, and_parts, and_from, false_from_ne_true}
use Rattle.std.proofs.lemmas.Bool.Decides.{nat_tests}
use Rattle.std.proofs.lemmas.List.Folds.{find-append}
use Rattle.std.proofs.Math.Nat.{eq-or-lt_of_le}
use Rattle.am_universe.specs.Choice.{choices, admits, IsWhole}
use Rattle.am_universe.proofs.ListLemmas.{IsIn-unmap}
use Rattle.am_universe.proofs.ChoiceLemmas.{whole_from_in}
use Rattle.am_search.proofs.ChoiceOrder.{none_found}

found_map : {X Y : Type 0} (test : Y → Bool) (f : X → Y) (xs : List X)
    → find test (map f xs) ≡ option_map f (find (λ y. test (f y)) xs)
found_map test f [] = refl
found_map test f (x ∷ xs) = elim (cases_Bool (test (f x))) [ inl e ↦ rw e refl | inr e ↦ rw e (found_map test f xs) ]

-- the first list in which something is found has the first of all
found_in_lists : (test : List ℕ → Bool) (lists : ℕ → List (List ℕ)) (p first count : ℕ) (c : List ℕ)
    → ((q : ℕ) → q < p → find test (lists q) ≡ None) → find test (lists p) ≡ Some c
    → first ≤ p → p < first + count
    → find test (flat_map lists (range_with_len first count)) ≡ Some c
found_in_lists test lists p first zero c before here low high = absurd (omega arith)
found_in_lists test lists p first (suc count) c before here low high =
    find-append test (lists first) (flat_map lists (range_with_len (first + 1) count))
    ∙ elim (eq-or-lt_of_le low) [
      | inl same ↦
          ap (λ o. option_or o (find test (flat_map lists (range_with_len (first + 1) count))))
          (ap (λ q. find test (lists q)) same ∙ here)
      | inr less ↦
          ap (λ o. option_or o (find test (flat_map lists (range_with_len (first + 1) count))))
          (before first less)
          ∙ found_in_lists test lists p (first + 1) count c before here (omega (arith, less))
          (omega arith)
    ]

-- A whole choice that passes a test is the first, if none that passes agrees with it before some
-- label and has a smaller position there.
abbrev pub IsLeastOf : List ℕ → (List ℕ → Bool) → List ℕ → Type 0
IsLeastOf ns test c =
    (d : List ℕ) → IsWhole ns d → test d ≡ true → (i : ℕ) → i < length c
    → ((j : ℕ) → j < i → slice_index d j ≡ slice_index c j)
    → slice_index d i < slice_index c i → ⊥

whole_more : (n p : ℕ) (ns c : List ℕ) → p < n → IsWhole ns c → IsWhole (n ∷ ns) (p ∷ c)
whole_more n p ns c h w =
    let below : nat_lt p n ≡ true = grind (arith, nat_tests, h) in
    (and_from (nat_lt p n) (admits ns c) below w.0, ap suc w.1)

pub found_least : (ns : List ℕ) (test : List ℕ → Bool) (c : List ℕ) → IsWhole ns c
    → test c ≡ true → IsLeastOf ns test c → find test (choices ns) ≡ Some c
found_least [] test [] w e least = ap (λ b. cond b (Some []) None) e
found_least [] test (p ∷ c) w e least = absurd (omega (arith, w.1))
found_least (n ∷ ns) test [] w e least = absurd (omega (arith, w.1))
found_least (n ∷ ns) test (p ∷ c) w e least =
    let parts = and_parts (nat_lt p n) (admits ns c) w.0 in
    let below : p < n = grind (arith, nat_tests, parts.0) in
    let whole : IsWhole ns c = (parts.1, omega (arith, w.1)) in
    let later = found_least ns (λ d. test (p ∷ d)) c whole e (λ d dw de i lt same less.
    least (p ∷ d) (whole_more n p ns d below dw) de (suc i) (omega (arith, lt))
    (agree d i same) less) in
    found_in_lists test (λ q. map (λ d. q ∷ d) (choices ns)) p 0 n (p ∷ c)
    (λ q less. none_found test (map (λ d. q ∷ d) (choices ns)) (λ d there.
    let r = IsIn-unmap (λ d. q ∷ d) (choices ns) d there in
    false_from_ne_true (test d) (λ passes.
    least (q ∷ r.0) (whole_more n q ns r.0 (omega (arith, less, below)) (whole_from_in ns r.0 r.1))
    (ap test r.2 ∙ passes) 0 (omega arith) (λ j lt. absurd (omega (arith, lt))) less)))
    (found_map test (λ d. p ∷ d) (choices ns) ∙ ap (option_map (λ d. p ∷ d)) later)
    (omega arith) (omega (arith, below))
  where
    agree : (d : List ℕ) (i : ℕ) → ((j : ℕ) → j < i → slice_index d j ≡ slice_index c j)
        → (j : ℕ) → j < suc i → slice_index (p ∷ d) j ≡ slice_index (p ∷ c) j
    agree d i same zero lt = refl
    agree d i same (suc j) lt = same j (omega (arith, lt))

-- if no whole choice passes, none is found
pub found_nowhere : (ns : List ℕ) (test : List ℕ → Bool)
    → ((c : List ℕ) → IsWhole ns c → test c ≡ true → ⊥) → find test (choices ns) ≡ None
found_nowhere ns test none = none_found test (choices ns) (λ d there.
    false_from_ne_true (test d) (none d (whole_from_in ns d there)))
