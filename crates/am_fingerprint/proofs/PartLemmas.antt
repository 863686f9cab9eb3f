-- Parts, and their joined bytes.
use Rattle.std.proofs.Common.{◌≡◌, ℕ, ◌<◌, ◌^◌, ◌/◌, zero, suc, List, [], ◌∷◌, ◌++◌, length, take, drop, get_or, All, Option, Some, None, inl, inr, refl, sym, ap, ap₂, ◌∙◌, arith}
use Rattle.std.specs.Prelude.{slice_index}
use Rattle.std.specs.Int.{w32, w64, byte_at, bytes_high_first, to_be_bytes, from_be_bytes}
use Rattle.std.proofs.Math.Nat.{mod-lt}
use Rattle.std.proofs.lemmas.Bool.{cases_lt}
use Rattle.std.proofs.lemmas.List.{append_cancel_left, get_or_past}
use Rattle.std.proofs.lemmas.List.Elements.{All-nil, All-cons, All-append, All-take}
use Rattle.std.proofs.Math.Seq.{take-append_seam}
use Rattle.std.proofs.lemmas.Nat.{from_be_bytes-to_be_bytes_8}
use Rattle.sha2.specs.Sha256.{sha256, digest_bytes, final_hash, initial_hash_256}
use Rattle.am_fingerprint.specs.Fingerprint.{AreParts, joined_parts, fingerprint_of}

pub fingerprint_length : (parts : List (Option (List ℕ))) → length (fingerprint_of parts) ≡ 16
unfolding sha256 digest_bytes
fingerprint_length parts = refl

-- The bytes of a length determine it.
same_length : (m n : ℕ) → m < 2 ^ 64 → n < 2 ^ 64 → to_be_bytes w64 m ≡ to_be_bytes w64 n → m ≡ n
same_length m n h k e = sym (from_be_bytes-to_be_bytes_8 m h) ∙ ap (from_be_bytes w64) e ∙ from_be_bytes-to_be_bytes_8 n k

-- Prefixes of the same length of the same text are equal.
fronts : (a b r s : List ℕ) → length a ≡ length b → a ++ r ≡ b ++ s → a ≡ b
fronts a b r s same e =
    sym (take-append_seam a r) ∙ ap (take (length a)) e ∙ ap (λ n. take n (b ++ s)) same ∙ take-append_seam b s

pub one_list : (xs ys : List (Option (List ℕ))) → AreParts xs → AreParts ys → joined_parts xs ≡ joined_parts ys → xs ≡ ys
one_list [] [] h k e = refl
one_list [] (None ∷ ys) h k e = absurd (omega (arith, ap length e))
one_list [] (Some b ∷ ys) h k e = absurd (omega (arith, ap length e))
one_list (None ∷ xs) [] h k e = absurd (omega (arith, ap length e))
one_list (Some a ∷ xs) [] h k e = absurd (omega (arith, ap length e))
one_list (None ∷ xs) (None ∷ ys) h k e = ap (λ l. None ∷ l) (one_list xs ys h.1 k.1 (ap (drop 1) e))
one_list (None ∷ xs) (Some b ∷ ys) h k e = absurd (omega (arith, ap (λ l. get_or l 0 2) e))
one_list (Some a ∷ xs) (None ∷ ys) h k e = absurd (omega (arith, ap (λ l. get_or l 0 2) e))
one_list (Some a ∷ xs) (Some b ∷ ys) h k e =
    let size : length a ≡ length b = same_length (length a) (length b) h.0 k.0 (ap (λ l. take 8 (drop 1 l)) e) in
    let rest : a ++ joined_parts xs ≡ b ++ joined_parts ys = ap (drop 9) e in
    let part : a ≡ b = fronts a b (joined_parts xs) (joined_parts ys) size rest in
    ap₂ (λ x l. Some x ∷ l) part
    (one_list xs ys h.1 k.1 (append_cancel_left a (joined_parts xs) (joined_parts ys) (rest ∙ ap (λ x. x ++ joined_parts ys) (sym part))))

-- ---- Bytes.

abbrev AreBytes : List ℕ → Type 0
AreBytes = All (λ b. b < 256)

byte_below : (k n : ℕ) → byte_at k n < 256
byte_below zero n = mod-lt n (omega arith)
byte_below (suc k) n = mod-lt (n / 256 ^ suc k) (omega arith)

high_bytes : (k n : ℕ) → AreBytes (bytes_high_first k n)
high_bytes zero n = All-nil (λ b. b < 256)
high_bytes (suc k) n =
    All-cons (λ b. b < 256) (byte_at k n) (bytes_high_first k n) (byte_below k n) (high_bytes k n)

word_bytes : (h : List ℕ) (n : ℕ) → AreBytes (digest_bytes h n)
unfolding digest_bytes
word_bytes h zero = All-nil (λ b. b < 256)
word_bytes h (suc n) =
    All-append (λ b. b < 256) (digest_bytes h n) (to_be_bytes w32 (slice_index h n)) (word_bytes h n)
    (high_bytes 4 (slice_index h n))

digest_is_bytes : (message : List ℕ) → AreBytes (sha256 message)
unfolding sha256
digest_is_bytes message = word_bytes (final_hash initial_hash_256 message) 8

pub fingerprint_bytes : (parts : List (Option (List ℕ))) (i : ℕ)
    → slice_index (fingerprint_of parts) i < 256
fingerprint_bytes parts i = elim (cases_lt i (length (fingerprint_of parts))) [
  | inl low ↦
      All-take (λ b. b < 256) 16 (sha256 (joined_parts parts)) (digest_is_bytes (joined_parts parts))
      i 0 low
  | inr past ↦ omega (arith, get_or_past (fingerprint_of parts) i 0 past)
]
