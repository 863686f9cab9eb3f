-- A key in a pointer, character by character.
use Rattle.std.proofs.Common.{◌≡◌, ◌≢◌, ℕ, suc, ◌<◌, ◌≤◌, List, [], ◌∷◌, length, get_or, refl, sym}
use Rattle.std.proofs.Common.{arith, inl, inr}
use Rattle.std.specs.List.{flat_map}
use Rattle.std.proofs.lemmas.Bool.{cases_lt}
use Rattle.std.proofs.lemmas.Bool.Decides.{nat_tests}
use Rattle.std.proofs.lemmas.List.{append-nil}
use Rattle.std.proofs.lemmas.Str.{encode_ascii, inside_one}
use lib.Utf8.{encode}
use Rattle.am_json.specs.Pointer.{pointer_escape}

-- a byte that stands for itself
plain : (c : ℕ) → c ≢ 126 → c ≢ 47 → pointer_escape c ≡ c ∷ []
plain c tilde slash = grind (arith, nat_tests)

-- bytes that stand for themselves
stands : (bytes : List ℕ) → ((k : ℕ) → k < length bytes → 128 ≤ get_or bytes k 0)
    → flat_map pointer_escape bytes ≡ bytes
stands [] h = refl
stands (b ∷ bytes) h =
    let one : pointer_escape b ≡ b ∷ [] =
    plain b (omega (arith, h 0 (omega arith))) (omega (arith, h 0 (omega arith))) in
    let rest : flat_map pointer_escape bytes ≡ bytes =
    stands bytes (λ k lt. h (suc k) (omega arith)) in
    rw (one, rest) refl

-- no byte of a character outside ASCII is in ASCII
wide : (c : ℕ) → 128 ≤ c → (k : ℕ) → k < length (encode c) → 128 ≤ get_or (encode c) k 0
wide c le k lt =
    elim (cases_lt (get_or (encode c) k 0) 128) [
      | inl small ↦ absurd
          (omega (arith, inside_one c [] (encode c) k (sym (append-nil (encode c))) lt small))
      | inr large ↦ large
    ]

-- a character other than `~` and `/` is written as it is
pub pointer_escape-other : (c : ℕ) → c ≢ 126 → c ≢ 47
    → flat_map pointer_escape (encode c) ≡ encode c
pointer_escape-other c tilde slash =
    elim (cases_lt c 128) [
      | inl small ↦ rw (encode_ascii c small) (rw (plain c tilde slash) refl)
      | inr large ↦ stands (encode c) (wide c large)
    ]
