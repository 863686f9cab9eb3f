-- A text that is whole at its front is in UTF-8.
use Rattle.std.proofs.Common.{◌≡◌, ◌+◌, ◌*◌, ◌-◌, ℕ, ◌<◌, ◌≤◌, Some, List, [], ◌∷◌, inl, inr, refl, ap, sym, ◌∙◌, subst, ◌⊎◌, arith}
use Rattle.std.specs.List.{list_all}
use Rattle.std.specs.Str.{IsUtf8}
use Rattle.std.proofs.lemmas.Bool.{and_parts, cases_lt}
use Rattle.std.proofs.lemmas.Bool.Decides.{nat_tests}
use Rattle.std.proofs.lemmas.Option.{option_and_then_some, same_Some}
use Rattle.std.proofs.lemmas.Str.{IsUtf8-append, IsUtf8-nil}
use Rattle.std.proofs.lemmas.Grind.{common_steps}
use Rattle.std.proofs.str.Valid.{of_one, of_two, of_three, of_four}
use Rattle.am_classes.specs.declared.tail.Tail.{Tail}
use Rattle.am_classes.specs.declared.tail.Tail.TheVariants.{Whole, One, TwoLow, TwoHigh}
use Rattle.am_classes.specs.declared.tail.Tail.TheVariants.{ThreeLow, ThreeHigh}
use Rattle.am_classes.specs.declared.alphabet.Alphabet.{Alphabet}
use Rattle.am_classes.specs.declared.alphabet.Alphabet.TheVariants.{Unicode, Ascii}
use Rattle.am_classes.specs.declared.label_state.LabelState.{LabelState}
use Rattle.am_classes.specs.declared.questions.Questions.{Questions}
use Rattle.am_scan.specs.Sight.{is_scanned}
use Rattle.am_classes.specs.Alphabet.{has_byte, is_printable, IsOrdinary, IsOver}
use Rattle.am_classes.specs.State.{FollowsLabel}
use Rattle.am_classes.specs.Utf8.{tail_step, text_step, tail_of}
use Rattle.am_classes.proofs.TailLemmas.{tail_wider}

-- Bytes in front of a text in UTF-8, of which the first is in a range and the others continue a
-- character.
abbrev Continues : ℕ → Type 0
Continues b = (128 ≤ b) × (b < 192)

abbrev Two : ℕ → ℕ → List ℕ → Type 0
Two low high text =
    (a : ℕ) × (b : ℕ) × (rest : List ℕ) × (text ≡ a ∷ b ∷ rest) × (low ≤ a) × (a < high) × Continues b × IsUtf8 rest

abbrev Three : ℕ → ℕ → List ℕ → Type 0
Three low high text =
    (a : ℕ) × (b : ℕ) × (c : ℕ) × (rest : List ℕ) × (text ≡ a ∷ b ∷ c ∷ rest) × (low ≤ a) × (a < high) × Continues b
    × Continues c × IsUtf8 rest

-- What a tail says about the text.
abbrev IsEnd : Tail → List ℕ → Type 0
IsEnd Whole text = IsUtf8 text
IsEnd One text = (a : ℕ) × (rest : List ℕ) × (text ≡ a ∷ rest) × Continues a × IsUtf8 rest
IsEnd TwoLow text = Two 128 160 text
IsEnd TwoHigh text = Two 160 192 text
IsEnd ThreeLow text = Three 128 144 text
IsEnd ThreeHigh text = Three 144 192 text

-- ---- Characters of one to four bytes.

one : (a : ℕ) (rest : List ℕ) → a < 128 → IsUtf8 rest → IsUtf8 (a ∷ rest)
one a rest low utf8 = IsUtf8-append (a ∷ []) rest (of_one (a ∷ []) 0 (omega arith) low) utf8

two : (a b : ℕ) (rest text : List ℕ) → text ≡ b ∷ rest → 194 ≤ a → a < 224 → Continues b
    → IsUtf8 rest → IsUtf8 (a ∷ text)
two a b rest text is first last second utf8 =
    subst (λ t. IsUtf8 (a ∷ t)) (sym is)
    (IsUtf8-append (a ∷ b ∷ []) rest (of_two (a ∷ b ∷ []) 0 (omega arith) (first, last) second) utf8)

three : (a b d : ℕ) (rest text : List ℕ) → text ≡ b ∷ d ∷ rest → 224 ≤ a → a < 240 → Continues b
    → Continues d → (a ≡ 224 → 160 ≤ b) → (a ≡ 237 → b < 160) → IsUtf8 rest → IsUtf8 (a ∷ text)
three a b d rest text is first last second third long valid utf8 =
    let c = (a - 224) * 4096 + (b - 128) * 64 + (d - 128) in
    let large : 2048 ≤ c = grind arith in
    let free : (c < 55296) ⊎ (57344 ≤ c) = elim (cases_lt c 55296) [ inl below ↦ inl below | inr above ↦ inr (grind arith) ] in
    subst (λ t. IsUtf8 (a ∷ t)) (sym is)
    (IsUtf8-append (a ∷ b ∷ d ∷ []) rest (of_three (a ∷ b ∷ d ∷ []) 0 (omega arith) (first, last) second third large free) utf8)

four : (a b d e : ℕ) (rest text : List ℕ) → text ≡ b ∷ d ∷ e ∷ rest → 240 ≤ a → a < 245
    → Continues b → Continues d → Continues e → (a ≡ 240 → 144 ≤ b) → (a ≡ 244 → b < 144)
    → IsUtf8 rest → IsUtf8 (a ∷ text)
four a b d e rest text is first last second third fourth long valid utf8 =
    subst (λ t. IsUtf8 (a ∷ t)) (sym is)
    (IsUtf8-append (a ∷ b ∷ d ∷ e ∷ []) rest
    (of_four (a ∷ b ∷ d ∷ e ∷ []) 0 (omega arith) first second third fourth (grind arith, grind arith)) utf8)

-- ---- The tail with one more byte before a text.

at : (tail next : Tail) (text : List ℕ) → Some next ≡ Some tail → IsEnd next text → IsEnd tail text
at tail next text is end = subst (λ t. IsEnd t text) (same_Some next tail is) end

ruleset reading = (arith, common_steps, nat_tests)

after : (before tail : Tail) (b : ℕ) (text : List ℕ) → tail_step before b ≡ Some tail
    → IsEnd before text → IsEnd tail (b ∷ text)
after Whole tail b text step end = elim (cases_lt b 128) [
  | inl ascii ↦ at tail Whole _ (grind reading) (one b text ascii end)
  | inr above ↦ elim (cases_lt b 192) [
    | inl below ↦ at tail One _ (grind reading) (b, text, refl, (above, below), end)
    | inr more ↦ absurd (grind reading)
  ]
]
after One tail b text step (a, rest, is, follows, utf8) = elim (cases_lt b 192) [
  | inl below ↦ elim (cases_lt b 160) [
    | inl low ↦ at tail TwoLow _ (grind reading) (b, a, rest, ap (λ t. b ∷ t) is, grind reading, low, follows, utf8)
    | inr high ↦ at tail TwoHigh _ (grind reading) (b, a, rest, ap (λ t. b ∷ t) is, high, below, follows, utf8)
  ]
  | inr lead ↦ at tail Whole _ (grind reading) (two b a rest text is (grind reading) (grind reading) follows utf8)
]
after TwoLow tail b text step (a, d, rest, is, low, high, follows, utf8) = elim (cases_lt b 192) [
  | inl below ↦ elim (cases_lt b 144) [
    | inl less ↦ at tail ThreeLow _ (grind reading) (b, a, d, rest, ap (λ t. b ∷ t) is, grind reading, less, (low, omega arith), follows, utf8)
    | inr more ↦ at tail ThreeHigh _ (grind reading) (b, a, d, rest, ap (λ t. b ∷ t) is, more, below, (low, omega arith), follows, utf8)
  ]
  | inr lead ↦ at tail Whole _ (grind reading) (three b a d rest text is (grind reading) (grind reading) (low, omega arith) follows (λ e. grind reading) (λ e. high) utf8)
]
after TwoHigh tail b text step (a, d, rest, is, low, high, follows, utf8) = elim (cases_lt b 192) [
  | inl below ↦ elim (cases_lt b 144) [
    | inl less ↦ at tail ThreeLow _ (grind reading) (b, a, d, rest, ap (λ t. b ∷ t) is, grind reading, less, (omega arith, high), follows, utf8)
    | inr more ↦ at tail ThreeHigh _ (grind reading) (b, a, d, rest, ap (λ t. b ∷ t) is, more, below, (omega arith, high), follows, utf8)
  ]
  | inr lead ↦ at tail Whole _ (grind reading) (three b a d rest text is (grind reading) (grind reading) (omega arith, high) follows (λ e. low) (λ e. grind reading) utf8)
]
after ThreeLow tail b text step (a, d, e, rest, is, low, high, third, fourth, utf8) =
    at tail Whole _ (grind reading) (four b a d e rest text is (grind reading) (grind reading) (low, omega arith) third fourth (λ same. grind reading) (λ same. high) utf8)
after ThreeHigh tail b text step (a, d, e, rest, is, low, high, third, fourth, utf8) =
    at tail Whole _ (grind reading) (four b a d e rest text is (grind reading) (grind reading) (omega arith, high) third fourth (λ same. low) (λ same. grind reading) utf8)

ordinary_utf8 : (text : List ℕ) → IsOrdinary text → IsUtf8 text
ordinary_utf8 [] h = IsUtf8-nil
ordinary_utf8 (b ∷ text) h =
    let both = and_parts (is_printable b) (list_all is_printable text) h in
    one b text (grind (reading, and_parts)) (ordinary_utf8 text both.1)

end_of : (text : List ℕ) (tail : Tail) → tail_of Unicode text ≡ Some tail → IsEnd tail text
end_of [] tail e = at tail Whole [] e IsUtf8-nil
end_of (b ∷ text) tail e =
    option_and_then_some (λ last. text_step (has_byte Unicode) last b) (tail_of Unicode text) tail e
    (λ before there step. after before tail b text step (end_of text before there))

-- A text over an alphabet is in UTF-8.
pub over_utf8 : (a : Alphabet) (text : List ℕ) → IsOver a text → IsUtf8 text
over_utf8 Unicode text utf8 = utf8
over_utf8 Ascii text ordinary = ordinary_utf8 text ordinary

-- A text that a state follows is in UTF-8 if it is whole at its front.
pub followed_utf8 : (q : Questions) (state : LabelState) (text : List ℕ) → FollowsLabel q state text
    → state.tail ≡ Whole → IsUtf8 text
followed_utf8 q state text follows whole =
    end_of text Whole (tail_wider (is_scanned q.bytes) (has_byte Unicode) (λ b small yes. refl) text Whole
    (follows.tail ∙ ap Some whole))
