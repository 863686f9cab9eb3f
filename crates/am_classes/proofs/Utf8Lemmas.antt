-- A text in UTF-8 is whole at its front.
use Rattle.std.proofs.Common.{◌≡◌, ℕ, ◌<◌, ◌≤◌, Bool, true, Some, List, [], ◌∷◌, ◌++◌, inl, inr, refl, ap, subst, ◌∙◌, arith}
use Rattle.std.specs.List.{list_all}
use Rattle.std.specs.Option.{option_and_then}
use Rattle.std.specs.Str.{IsUtf8}
use Rattle.std.proofs.lemmas.Bool.{cases_lt, and_parts}
use Rattle.std.proofs.lemmas.Bool.Decides.{nat_tests}
use Rattle.std.proofs.lemmas.Grind.{common_steps}
use lib.Utf8.{scalar, scalars, encode, encodes, scalar_cases}
use Rattle.am_classes.specs.declared.tail.Tail.{Tail}
use Rattle.am_classes.specs.declared.tail.Tail.TheVariants.{Whole, TwoLow, TwoHigh}
use Rattle.am_classes.specs.declared.alphabet.Alphabet.TheVariants.{Unicode}
use Rattle.am_classes.specs.Alphabet.{has_byte}
use Rattle.am_classes.specs.Utf8.{tail_step, text_step, tail_of, tail_with}
use Rattle.am_classes.proofs.TailLemmas.{tail_narrower}

-- One more byte before bytes that have a tail.
step_of : (b : ℕ) (text : List ℕ) (tail next : Tail) → tail_of Unicode text ≡ Some tail
    → tail_step tail b ≡ Some next → tail_of Unicode (b ∷ text) ≡ Some next
step_of b text tail next e step = ap (option_and_then (λ last. text_step (has_byte Unicode) last b)) e ∙ step

-- A character of two bytes before a whole text.
two_bytes : (a b : ℕ) (text : List ℕ) → tail_of Unicode text ≡ Some Whole → 194 ≤ a → a < 224 → 128 ≤ b
    → b < 192 → tail_of Unicode (a ∷ b ∷ text) ≡ Some Whole
two_bytes a b text e la ha lb hb = grind (arith, common_steps, step_of, nat_tests)

-- A character of three bytes before a whole text.
three_bytes : (a b d : ℕ) (text : List ℕ) → tail_of Unicode text ≡ Some Whole → 224 ≤ a → a < 240 → 128 ≤ b
    → b < 192 → 128 ≤ d → d < 192 → (a ≡ 224 → 160 ≤ b) → (a ≡ 237 → b < 160)
    → tail_of Unicode (a ∷ b ∷ d ∷ text) ≡ Some Whole
three_bytes a b d text e la ha lb hb ld hd long valid = grind (arith, common_steps, step_of, nat_tests, cases_lt)

-- The last three bytes of a character of four, before a whole text.
three_of : (a : Tail) (b d : ℕ) (text : List ℕ) → tail_of Unicode text ≡ Some Whole → 128 ≤ b → b < 192
    → 128 ≤ d → d < 192 → tail_step TwoLow b ≡ Some a → tail_step TwoHigh b ≡ Some a
    → (f : ℕ) → 128 ≤ f → f < 192 → tail_of Unicode (b ∷ d ∷ f ∷ text) ≡ Some a
three_of a b d text e lb hb ld hd low high f lf hf = grind (arith, common_steps, step_of, nat_tests, cases_lt)

-- A character of four bytes before a whole text.
four_bytes : (a b d f : ℕ) (text : List ℕ) → tail_of Unicode text ≡ Some Whole → 240 ≤ a → a < 245 → 128 ≤ b
    → b < 192 → 128 ≤ d → d < 192 → 128 ≤ f → f < 192 → (a ≡ 240 → 144 ≤ b) → (a ≡ 244 → b < 144)
    → tail_of Unicode (a ∷ b ∷ d ∷ f ∷ text) ≡ Some Whole
four_bytes a b d f text e la ha lb hb ld hd lf hf long valid =
    grind (arith, common_steps, cases_lt, three_of, nat_tests, step_of)

-- Below the surrogates, or above them.
abbrev IsValid : ℕ → Type 0
IsValid c = c < 1114112 × (55296 ≤ c → 57344 ≤ c)

valid_scalar : (c : ℕ) → scalar c ≡ true → IsValid c
valid_scalar c e = elim (scalar_cases c e) [ inl below ↦ (omega arith, λ above. omega arith) | inr above ↦ (omega arith, λ up. omega arith) ]

-- A character before a whole text.
char_whole : (c : ℕ) (text : List ℕ) → IsValid c → tail_of Unicode text ≡ Some Whole
    → tail_of Unicode (encode c ++ text) ≡ Some Whole
unfolding encode
char_whole c text valid e =
    grind (arith, common_steps, step_of, nat_tests, two_bytes, three_bytes, four_bytes)

chars_whole : (cs : List ℕ) → scalars cs ≡ true → tail_of Unicode (encodes cs) ≡ Some Whole
chars_whole [] e = refl
chars_whole (c ∷ cs) e = grind (arith, common_steps, and_parts, char_whole, valid_scalar, chars_whole cs)

-- A text in UTF-8 is whole at its front, if it has only bytes that it may have.
pub utf8_whole : (may : ℕ → Bool) (text : List ℕ) → IsUtf8 text → list_all may text ≡ true
    → tail_with may text ≡ Some Whole
utf8_whole may text utf8 all =
    tail_narrower may text Whole all
    (subst (λ bytes. tail_of Unicode bytes ≡ Some Whole) utf8.1.1 (chars_whole utf8.0 utf8.1.0))
