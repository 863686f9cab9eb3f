-- A text between quotes, and one without line feeds, character by character.
use Rattle.std.proofs.Common.{◌≡◌, ◌≢◌, ℕ, suc, ◌<◌, ◌≤◌, List, [], ◌∷◌, length, get_or, refl, sym}
use Rattle.std.proofs.Common.{arith, inl, inr, ◌∙◌}
use Rattle.std.specs.List.{flat_map}
use Rattle.std.proofs.lemmas.Bool.{cases_lt}
use Rattle.std.proofs.lemmas.Bool.Decides.{nat_tests}
use Rattle.std.proofs.lemmas.List.{append-nil}
use Rattle.std.proofs.lemmas.Str.{encode_ascii, inside_one}
use lib.Utf8.{encode}
use borrow.Author.Tests.{ne_eqb}
use Rattle.am_universe.specs.Text.{label_value_escape}
use Rattle.am_report_texts.specs.Line.{unbroken}

-- What is written of bytes, byte by byte, where each byte beyond ASCII stands for itself.
abbrev Keeps : (List ℕ → List ℕ) → ℕ → Type 0
Keeps text b = (bytes : List ℕ) → text (b ∷ bytes) ≡ b ∷ text bytes

stands : (text : List ℕ → List ℕ) → text [] ≡ [] → ((b : ℕ) → 128 ≤ b → Keeps text b)
    → (bytes : List ℕ) → ((k : ℕ) → k < length bytes → 128 ≤ get_or bytes k 0)
    → text bytes ≡ bytes
stands text none each [] h = none
stands text none each (b ∷ bytes) h =
    rw (each b (h 0 (omega arith)) bytes)
    (rw (stands text none each bytes (λ k lt. h (suc k) (omega arith))) refl)

-- A character stands for itself if its only byte does. No byte of one beyond ASCII is ASCII.
kept : (text : List ℕ → List ℕ) → text [] ≡ [] → ((b : ℕ) → 128 ≤ b → Keeps text b) → (c : ℕ)
    → Keeps text c → text (encode c) ≡ encode c
kept text none each c same =
    elim (cases_lt c 128) [
      | inl small ↦ rw (encode_ascii c small) (same [] ∙ rw none refl)
      | inr large ↦ stands text none each (encode c) (λ k lt.
          elim (cases_lt (get_or (encode c) k 0) 128) [
            | inl low ↦ absurd
                (omega (arith, inside_one c [] (encode c) k (sym (append-nil (encode c))) lt low))
            | inr high ↦ high
          ])
    ]

-- A byte without an escape stands for itself.
plain : (c : ℕ) → c ≢ 92 → c ≢ 34 → c ≢ 10 → Keeps (flat_map label_value_escape) c
plain c backslash quote feed = λ bytes. grind (arith, nat_tests)

pub escape-other : (c : ℕ) → c ≢ 92 → c ≢ 34 → c ≢ 10
    → flat_map label_value_escape (encode c) ≡ encode c
escape-other c backslash quote feed =
    kept (flat_map label_value_escape) refl
    (λ b large. plain b (omega arith) (omega arith) (omega arith)) c (plain c backslash quote feed)

pub unbroken_encode : (c : ℕ) → c ≢ 10 → unbroken (encode c) ≡ encode c
unbroken_encode c feed =
    kept unbroken refl (λ b large bytes. rw (ne_eqb b 10 (omega arith)) refl) c
    (λ bytes. rw (ne_eqb c 10 feed) refl)
