-- The pattern `.*` matches each text of printable ASCII, and does not match a line feed.
use Rattle.std.proofs.Common.{◌≡◌, ℕ, zero, suc, ◌+◌, ◌<◌, true, false, ◌&&◌, List, [], ◌∷◌, length}
use Rattle.std.proofs.Common.{Some, is_some, slice_get, not, refl, ap, ◌∙◌}
use Rattle.std.proofs.Common.{inl, inr, arith, codes, nat_lt, lt-ltb}
use Rattle.std.specs.Char.{len_utf8}
use Rattle.std.proofs.lemmas.Bool.{and_parts}
use Rattle.std.proofs.lemmas.Bool.Decides.{nat_tests}
use Rattle.std.proofs.lemmas.Option.{slice_get_past}
use Rattle.std.proofs.lemmas.Str.{len_utf8_ascii}
use Rattle.regex_class.specs.Ranges.{Range, in_ranges}
use Rattle.regex_hir.specs.Text.{is_some_and, is_boundary, byte_before}
use Rattle.regex_hir.specs.Looks.{holds, holds_between}
use Rattle.regex_hir.specs.declared.look.Look.TheVariants.{Start, End}
use Rattle.regex_hir.specs.Re.{Re, empty, byte_in, char_in, look, cat, alt, plus, accept}
use Rattle.regex_hir.specs.Re.{attempt}
use Rattle.regex_hir.specs.Find.{find_str, first_from}
use Rattle.regex_hir.specs.Matches.{Rounds, one_round, next_round, Matches}
use Rattle.regex_hir.proofs.TextLemmas.{char_at_ascii}
use Rattle.regex_hir.proofs.OptionLemmas.{value_of_IsSome}
use Rattle.regex_hir.proofs.AttemptLemmas.{attempt_complete}
use Rattle.regex_hir.proofs.FindLemmas.{first_between_here}
use Rattle.regex_syntax.specs.Reading.{◌∈◌}
use Rattle.regex_syntax.specs.Sets.{Set, members, negate}
use Rattle.regex_syntax.specs.Verdict.{default_config}
use Rattle.regex_syntax.proofs.SetLemmas.{in_ranges-members}
use Rattle.regex_syntax.proofs.Written.{grammar}
use Rattle.am_labels.specs.Pattern.{pattern_reading, finds}
use Rattle.am_classes.specs.Alphabet.{is_printable, IsOrdinary}
use Rattle.am_every_alert.proofs.OverAscii.{is_ascii}

-- ---- What the grammar reads.

-- the characters that `.` stands for
abbrev stands_for : Set
stands_for = negate default_config (λ c. c ∈ "\n")

-- any number of some characters in a row, and the same between the anchors
abbrev many : List Range → Re
many rs = alt (plus true (char_in rs)) empty

abbrev anchored : List Range → Re
anchored rs =
    alt (cat (look Start) (cat (alt (cat (many rs) empty) (byte_in [])) (cat (look End) empty)))
    (byte_in [])

is_read : pattern_reading (codes ".*") ≡ Some (anchored (members stands_for))
unfolding grammar pattern_reading
is_read = refl

by_search : (text : List ℕ)
    → finds (codes ".*") text ≡ is_some (find_str (anchored (members stands_for)) text 0)
by_search text = ap (λ o. is_some_and o (λ re. is_some (find_str re text 0))) is_read

-- ---- A line feed is not found.

abbrev pub line_feed : List ℕ
line_feed = codes "\n"

not_in : in_ranges (members stands_for) 10 ≡ false
unfolding negate
not_in = in_ranges-members stands_for 10

pub finds_none : finds (codes ".*") line_feed ≡ false
unfolding find_str first_from attempt holds holds_between byte_before is_boundary in_ranges
finds_none =
    by_search line_feed ∙ rw (char_at_ascii line_feed 0 10 refl (omega arith), not_in) refl

-- ---- Each text of printable ASCII is found.

printable_in : (b : ℕ) → is_printable b ≡ true → in_ranges (members stands_for) b ≡ true
unfolding negate
printable_in b e =
    let parts = and_parts (nat_lt 31 b) (nat_lt b 127) e in
    in_ranges-members stands_for b
    ∙ ap (λ t. t && stands_for b) (lt-ltb b 0x11_0000 (omega (arith, is_ascii b e)))
    ∙ grind (arith, nat_tests)

one_char : (text : List ℕ) (i : ℕ) → i < length text → IsOrdinary text
    → Matches text (char_in (members stands_for)) i (suc i)
one_char text i h ordinary =
    let b = byte_at text i h ordinary in
    let small = is_ascii b.0 b.2 in
    let next : suc i ≡ i + len_utf8 b.0 = omega (arith, len_utf8_ascii b.0 small) in
    (b.0, char_at_ascii text i b.0 b.1 small, printable_in b.0 b.2, next)
  where
    byte_at : (text : List ℕ) (i : ℕ) → i < length text → IsOrdinary text
        → (b : ℕ) × (slice_get text i ≡ Some b) × (is_printable b ≡ true)
    byte_at [] i h ordinary = absurd (omega (arith, h))
    byte_at (b ∷ text) zero h ordinary = (b, refl, (and_parts (is_printable b) _ ordinary).0)
    byte_at (b ∷ text) (suc i) h ordinary =
        byte_at text i (omega (arith, h)) (and_parts (is_printable b) _ ordinary).1

-- as many as the text has
all_chars : (text : List ℕ) (n : ℕ) → n < length text → IsOrdinary text
    → Rounds (Matches text (char_in (members stands_for))) 0 (suc n)
all_chars text zero h ordinary = one_round 1 (one_char text 0 h ordinary)
all_chars text (suc n) h ordinary =
    next_round (suc n) (suc (suc n)) (all_chars text n (omega (arith, h)) ordinary)
    (one_char text (suc n) h ordinary)

many_match : (text : List ℕ) → IsOrdinary text
    → Matches text (many (members stands_for)) 0 (length text)
many_match [] ordinary = inr refl
many_match (b ∷ text) ordinary =
    inl (all_chars (b ∷ text) (length text) (omega arith) ordinary)

anchored_matches : (text : List ℕ) → IsOrdinary text
    → Matches text (anchored (members stands_for)) 0 (length text)
unfolding holds holds_between byte_before
anchored_matches text ordinary =
    let n = length text in
    let at_end = ap (λ o. not (is_some o)) (slice_get_past text n (omega arith)) in
    inl (0, (refl, refl), (n, inl (n, many_match text ordinary, refl), (n, (at_end, refl), refl)))

at_boundary : (text : List ℕ) → IsOrdinary text → is_boundary text 0 ≡ true
unfolding is_boundary
at_boundary [] ordinary = refl
at_boundary (b ∷ text) ordinary =
    let small = is_ascii b (and_parts (is_printable b) _ ordinary).0 in grind (arith, nat_tests)

pub finds_ordinary : (text : List ℕ) → IsOrdinary text → finds (codes ".*") text ≡ true
unfolding find_str
finds_ordinary text ordinary =
    let re = anchored (members stands_for) in
    let found = value_of_IsSome (attempt text re accept 0)
    (attempt_complete text re accept 0 (length text) (anchored_matches text ordinary) refl) in
    by_search text ∙ ap is_some (first_between_here _ 0 (length text) found.0 (omega arith)
    (rw (at_boundary text ordinary) found.1))
