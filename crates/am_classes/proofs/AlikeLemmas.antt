-- Texts that some matchers cannot tell apart: this is an equivalence, and such texts have the same
-- hits.
use Rattle.std.proofs.Common.{◌≡◌, ℕ, true, not, ◌&&◌, List, [], ◌∷◌, ◌++◌, Some, slice_get}
use Rattle.std.proofs.Common.{refl, sym, ap, ap₂, ◌∙◌, subst, inl, inr, arith}
use Rattle.std.proofs.lemmas.Bool.{cases_Bool, and_parts}
use Rattle.std.proofs.lemmas.Option.{same_Some}
use Rattle.std.proofs.lemmas.Slice.Eq.{bytes_eq-Decides}
use Rattle.std.proofs.lemmas.Grind.{common_steps}
use Rattle.am_universe.proofs.ListLemmas.{IsIn, IsIn-left, IsIn-right, IsIn-split}
use Rattle.am_universe.proofs.ListLemmas.{AllByRecursion-at, AllByRecursion-each}
use Rattle.am_universe.proofs.Members.{in_at}
use Rattle.am_labels.specs.Matcher.{Matcher, holds}
use Rattle.am_labels.proofs.OperatorLemmas.{asks_same, holds_same}
use Rattle.am_scan.proofs.Places.{all_from_places, get_pushed}
use Rattle.am_classes.specs.Alike.{AreAlike, AreApart}
use Rattle.am_classes.specs.Named.{names_texts}
use Rattle.am_classes.specs.Truths.{alike, compares, finding, hits, naming}
use Rattle.am_classes.proofs.PlaceLemmas.{in_places, place_in, same_places}

pub alike_itself : (ms : List Matcher) (x : List ℕ) → AreAlike ms x x
alike_itself [] x = tt
alike_itself (m ∷ ms) x = (refl, alike_itself ms x)

pub alike_turned : (ms : List Matcher) (x y : List ℕ) → AreAlike ms x y → AreAlike ms y x
alike_turned [] x y h = tt
alike_turned (m ∷ ms) x y h = (sym h.0, alike_turned ms x y h.1)

pub alike_joined : (ms : List Matcher) (x y z : List ℕ) → AreAlike ms x y → AreAlike ms y z
    → AreAlike ms x z
alike_joined [] x y z g h = tt
alike_joined (m ∷ ms) x y z g h = (g.0 ∙ h.0, alike_joined ms x y z g.1 h.1)

-- ---- Texts are alike exactly if they have the same hits.

-- a matcher is a hit exactly if its comparison is true
module _ (ms : List Matcher) (text : List ℕ) (k : ℕ) (m : Matcher) (at : slice_get ms k ≡ Some m) where
  hit_in : compares text m ≡ true → IsIn (hits ms text) k
  hit_in true_there = elim (cases_Bool (names_texts m)) [
    | inl names ↦
        IsIn-left (naming ms text) (finding ms text) k
        (place_in (λ m. names_texts m && compares text m) ms k m at (rw names true_there))
    | inr other ↦
        IsIn-right (naming ms text) (finding ms text) k
        (place_in (λ m. not (names_texts m) && compares text m) ms k m at (rw other true_there))
  ]

  in_hit : IsIn (hits ms text) k → compares text m ≡ true
  in_hit there =
      let found : (n : Matcher) × (slice_get ms k ≡ Some n) × (compares text n ≡ true) =
      elim (IsIn-split (naming ms text) (finding ms text) k there) [
        | inl here ↦
            let one = in_places (λ m. names_texts m && compares text m) ms k here in
            (one.0, one.1, (and_parts _ _ one.2).1)
        | inr here ↦
            let one = in_places (λ m. not (names_texts m) && compares text m) ms k here in
            (one.0, one.1, (and_parts _ _ one.2).1)
      ] in
      subst (λ n. compares text n ≡ true) (same_Some found.0 m (sym found.1 ∙ at)) found.2

compares_same : (ms : List Matcher) (x y : List ℕ) → hits ms x ≡ hits ms y → (k : ℕ) (m : Matcher)
    → slice_get ms k ≡ Some m → compares x m ≡ compares y m
compares_same ms x y same k m at = elim (cases_Bool (compares x m)) [
  | inl passes ↦
      passes ∙ sym (in_hit ms y k m at (subst (λ ks. IsIn ks k) same (hit_in ms x k m at passes)))
  | inr fails ↦ elim (cases_Bool (compares y m)) [
    | inl passes ↦
        let too = in_hit ms x k m at (subst (λ ks. IsIn ks k) (sym same) (hit_in ms y k m at passes)) in
        absurd cc
    | inr missed ↦ fails ∙ sym missed
  ]
]

alike_from_hits : (ms : List Matcher) (x y : List ℕ) → hits ms x ≡ hits ms y → AreAlike ms x y
alike_from_hits ms x y same =
    all_from_places (λ m. holds m.op m.value x ≡ holds m.op m.value y) ms
    (λ k m at. holds_same m.op m.value x y (compares_same ms x y same k m at))

hits_from_alike : (ms : List Matcher) (x y : List ℕ) → AreAlike ms x y → hits ms x ≡ hits ms y
hits_from_alike ms x y alike =
    let same : (m : Matcher) → IsIn ms m → compares x m ≡ compares y m =
    λ m i. asks_same m.op m.value x y
    (AllByRecursion-at (λ m. holds m.op m.value x ≡ holds m.op m.value y) ms m alike i) in
    ap₂ ◌++◌
    (same_places 0 _ _ ms (AllByRecursion-each _ ms (λ m i. ap (λ b. names_texts m && b) (same m i))))
    (same_places 0 _ _ ms
    (AllByRecursion-each _ ms (λ m i. ap (λ b. not (names_texts m) && b) (same m i))))

pub alike_is : (ms : List Matcher) (x y : List ℕ) → AreAlike ms x y → alike ms x y ≡ true
alike_is ms x y h = (bytes_eq-Decides (hits ms x) (hits ms y)).1 (hits_from_alike ms x y h)

pub is_alike : (ms : List Matcher) (x y : List ℕ) → alike ms x y ≡ true → AreAlike ms x y
is_alike ms x y h = alike_from_hits ms x y ((bytes_eq-Decides (hits ms x) (hits ms y)).0 h)

-- ---- One text more.

pub apart_pushed : (ms : List Matcher) (xs : List (List ℕ)) (x : List ℕ) → AreApart ms xs
    → ((y : List ℕ) → IsIn xs y → AreAlike ms y x → ⊥) → AreApart ms (xs ++ x ∷ [])
apart_pushed ms xs x apart none i j y z at_y at_z same =
    grind (arith, common_steps, get_pushed, in_at, alike_turned)
