-- Texts without a line feed, and lines that are made of them.
use Rattle.std.proofs.Common.{◌≡◌, ◌==◌, ℕ, zero, suc, ◌/◌, ◌%◌, List, [], ◌∷◌, ◌++◌, true}
use Rattle.std.proofs.Common.{false, not, decimal, refl, arith, inl, inr, sym, codes, append_assoc}
use Rattle.std.specs.Fmt.{digits, digits_onto, digit_glyph}
use Rattle.std.specs.List.{flat_map, list_all}
use Rattle.std.specs.Str.Parse.{AllDigits}
use Rattle.std.proofs.lemmas.Bool.{and_parts, cases_Bool}
use Rattle.std.proofs.lemmas.Bool.Decides.{nat_tests}
use Rattle.std.proofs.lemmas.List.Folds.{list_all-append}
use Rattle.std.proofs.lemmas.Str.Parse.{digit_from_value}
use borrow.Author.Tests.{ne_eqb}
use Rattle.am_universe.specs.Text.{label_value_escape, quoted_text}
use Rattle.am_labels.specs.declared.op.Op.{Op}
use Rattle.am_labels.specs.declared.op.Op.TheVariants.{Equal}
use Rattle.am_labels.specs.Matcher.{Matcher, operator_text}
use Rattle.am_labels.specs.MatcherText.{continues_name, is_name}
use Rattle.am_labels.proofs.MatcherTextWhole.{name_continues}
use Rattle.am_config.specs.Path.{numeral, step_text, path_text}
use Rattle.am_config.proofs.Numerals.{IsNumeral-numeral}
use Rattle.am_report_texts.specs.Separated.{texts_behind}
use Rattle.am_report_texts.specs.NameText.{name_text}
use Rattle.am_report_texts.specs.MatchersText.{matcher_text}
use Rattle.am_report_texts.specs.Lines.{is_unbroken, IsLine}
use Rattle.am_report_texts.specs.Line.{Piece, Words, Value, ShownRoute, Shown, Word, unbroken}
use Rattle.am_report_texts.specs.Line.{word_behind, shown_route_text}
use Rattle.am_report_texts.specs.Line.{Line, shown_text, piece_text, pieces_line, line_text}
use Rattle.am_report_texts.specs.Line.{mark_of}
use Rattle.am_report_texts.specs.declared.lines.Level.{Level}
use Rattle.am_report_texts.specs.declared.lines.Level.TheVariants.{Finding, Note, Plain}

-- A text has no line feed: a record, so that `search` finds the parts that a text is made of.
record IsUnbroken (text : List ℕ) : Type 0 where
  holds : is_unbroken text ≡ true

nothing : IsUnbroken []
nothing = record { holds = refl }

byte : (c : ℕ) (text : List ℕ) → (c == 10) ≡ false → IsUnbroken text → IsUnbroken (c ∷ text)
byte c text other rest = record { holds = rw (other, rest.holds) refl }

both : (a b : List ℕ) → IsUnbroken a → IsUnbroken b → IsUnbroken (a ++ b)
both a b h k =
    record { holds = rw (list_all-append (λ c. not (c == 10)) a b, h.holds, k.holds) refl }

each_of : {X : Type 0} (text : X → List ℕ) → ((x : X) → IsUnbroken (text x)) → (xs : List X)
    → IsUnbroken (flat_map text xs)
each_of text each [] = nothing
each_of text each (x ∷ xs) = both (text x) _ (each x) (each_of text each xs)

behind : {X : Type 0} (first gap : List ℕ) (text : X → List ℕ) → IsUnbroken first
    → IsUnbroken gap → ((x : X) → IsUnbroken (text x)) → (xs : List X)
    → IsUnbroken (texts_behind first gap text xs)
behind first gap text h k each [] = nothing
behind first gap text h k each (x ∷ xs) =
    both first _ h (both (text x) _ (each x) (behind gap gap text k k each xs))

ruleset parts = (nothing, byte, both, each_of, behind)

-- ---- Words, texts in quotes, and names.

words : (text : List ℕ) → IsUnbroken (unbroken text)
words [] = nothing
words (c ∷ cs) = elim (cases_Bool (c == 10)) [
  | inl e ↦ rw e (words cs)
  | inr e ↦ rw e (byte c (unbroken cs) e (words cs))
]

behind_route : (word : List ℕ) → IsUnbroken (word_behind word)
behind_route [] = nothing
behind_route (c ∷ cs) = byte 32 (unbroken (c ∷ cs)) refl (words (c ∷ cs))

escape : (c : ℕ) → IsUnbroken (label_value_escape c)
escape c = record { holds = grind (arith, nat_tests) }

quoted : (text : List ℕ) → IsUnbroken (quoted_text text)
quoted text = search (parts, escape)

all_continue : (cs : List ℕ) → list_all continues_name cs ≡ true → IsUnbroken cs
all_continue [] h = nothing
all_continue (c ∷ cs) h =
    let here = and_parts (continues_name c) (list_all continues_name cs) h in
    byte c cs (grind (arith, nat_tests, here.0)) (all_continue cs here.1)

name : (text : List ℕ) → IsUnbroken (name_text text)
name text = elim (cases_Bool (is_name text)) [
  | inl e ↦ rw e (all_continue text (name_continues text e))
  | inr e ↦ rw e (quoted text)
]

-- ---- Numbers and paths.

digits_before : (k n : ℕ) (text : List ℕ) → IsUnbroken text
    → IsUnbroken (digits_onto k 10 false n text)
digits_before zero n text h = h
digits_before (suc k) n text h =
    let more = byte (digit_glyph false (n % 10)) text (grind (arith, nat_tests)) h in
    elim (cases_Bool (n / 10 == 0)) [
      | inl e ↦ rw e more
      | inr e ↦ rw e (digits_before k (n / 10) (digit_glyph false (n % 10) ∷ text) more)
    ]

number : (n : ℕ) → IsUnbroken (decimal n)
unfolding digits
number n = digits_before 64 n [] nothing

all_digits : (text : List ℕ) → AllDigits 10 text → IsUnbroken text
all_digits [] h = nothing
all_digits (c ∷ cs) h =
    byte c cs (ne_eqb c 10 (λ e. omega (arith, digit_from_value c h.0))) (all_digits cs h.1)

path : (steps : List ℕ) → IsUnbroken (path_text steps)
path [] = search parts
path (p ∷ ps) =
    each_of step_text
    (λ q. byte 47 (numeral q) refl (all_digits (numeral q) (IsNumeral-numeral q).digits)) (p ∷ ps)

-- ---- What lines show.

operator : (op : Op) → IsUnbroken (operator_text op)
operator Equal = search parts
operator _ = search parts

matcher : (m : Matcher) → IsUnbroken (matcher_text m)
matcher m = search (parts, name, operator, quoted)

route : (r : ShownRoute) → IsUnbroken (shown_route_text r)
route r = search (parts, path, matcher, behind_route) depth 9

ruleset items = (parts, words, number, name, quoted, path, matcher, route)

shown : (s : Shown) → IsUnbroken (shown_text s)
shown (Word w) = words w
shown _ = search items depth 9

piece : (p : Piece) → IsUnbroken (piece_text p)
piece (Words w) = words w
piece (Value field s) = shown s

pub one_pieces_line : (pieces : List Piece) → IsLine (pieces_line pieces)
one_pieces_line pieces =
    (flat_map piece_text pieces, (each_of piece_text piece pieces).holds, refl)

mark : (level : Level) → IsUnbroken (mark_of level)
mark Note = search parts
mark _ = nothing

marked : (level : Level) (text : List ℕ) → IsLine text → IsLine (mark_of level ++ text)
marked level text h = (
  mark_of level ++ h.0,
  (both (mark_of level) h.0 (mark level) (record { holds = h.1 })).holds,
  rw h.2 (sym (append_assoc (mark_of level) h.0 (codes "\n"))),
)

pub one_line : (line : Line) → IsLine (line_text line)
one_line line = marked line.level (pieces_line line.pieces) (one_pieces_line line.pieces)
