-- What the grammar reads in an anchored pattern that has wildcards alone.
use Rattle.std.proofs.Common.{◌≡◌, ℕ, zero, suc, ◌+◌, ◌-◌, ◌*◌, ◌<◌, Bool, true, false, not, ◌&&◌, ◌==◌}
use Rattle.std.proofs.Common.{List, [], ◌∷◌, ◌++◌, length, drop, map, Option, Some, None, option_map}
use Rattle.std.proofs.Common.{refl, ap, ◌∙◌, arith, codes, add-one, ne_eqb, append_assoc, length-append}
use Rattle.std.specs.Prelude.{nat_le}
use Rattle.std.specs.Char.{is_ascii}
use Rattle.std.specs.List.{list_all, list_any, join_with_byte}
use Rattle.std.proofs.lemmas.Bool.{and_parts, or_parts, both_ways, not-true, ltb-true}
use Rattle.std.proofs.lemmas.Str.{encode_ascii}
use Rattle.regex_hir.specs.Re.{Re, empty, literal, byte_in, char_in, look, cat, alt, plus}
use Rattle.regex_hir.specs.Meaning.{cat_all, alt_all}
use Rattle.regex_hir.specs.declared.look.Look.TheVariants.{Start, End}
use Rattle.regex_syntax.specs.Brackets.{Nested, flat, join}
use Rattle.regex_syntax.specs.Grammar.{Place, atom, char_meaning, item, items, branches, repetitions}
use Rattle.regex_syntax.specs.Grammar.{with_repetitions, join_parts, read, opening, set_flags}
use Rattle.regex_syntax.specs.Reading.{Text, first, skip, is_at, is_empty}
use Rattle.regex_syntax.specs.Sets.{verbatim, members}
use Rattle.regex_syntax.specs.Verdict.{default_config}
use Rattle.regex_syntax.proofs.Written.{grammar}
use Rattle.am_labels.specs.declared.wildcards.WildcardPiece.{WildcardPiece}
use Rattle.am_labels.specs.declared.wildcards.WildcardPiece.TheVariants.{Byte, AnyText}
use Rattle.am_labels.specs.Wildcards.{is_plain, is_fine_piece}

-- A place with the default options, where no group was opened.
abbrev at_text : Text → Place
at_text t = record { config = default_config; names = None ∷ []; text = t }

-- What the dot stands for: a character that is no line feed.
abbrev pub no_line_feed : ℕ → Bool
no_line_feed c = nat_le c 0x10_FFFF && not (c == 10)

abbrev pub any_char : Re
any_char = char_in (members no_line_feed)

-- What a piece, some pieces and some alternatives stand for.
abbrev pub part : WildcardPiece → Nested Re
part (Byte c) = flat (literal (c ∷ []))
part AnyText = record { value = alt (plus true any_char) empty; depth = 1 }

abbrev pub all_of : List WildcardPiece → Nested Re
all_of ps = join cat_all (map part ps)

abbrev pub one_of_all : List (List WildcardPiece) → Re
one_of_all pss = (join alt_all (map all_of pss)).value

-- The same between the anchors.
abbrev pub anchored : List (List WildcardPiece) → Re
anchored pss =
    alt (cat (look Start) (cat (one_of_all pss) (cat (look End) empty))) (byte_in [])

-- The text of some pieces.
abbrev pub spelled : List WildcardPiece → List ℕ
spelled [] = []
spelled (Byte c ∷ ps) = c ∷ spelled ps
spelled (AnyText ∷ ps) = 46 ∷ 42 ∷ spelled ps

abbrev is_special : ℕ → Bool
is_special c = list_any (λ d. d == c) (codes "\\.+*?()|[]{}^$")

pub differs : (c d : ℕ) → is_plain c ≡ true → is_special d ≡ true → (c == d) ≡ false
differs c d plain special =
    let parts = and_parts (is_ascii c) _ plain in
    ne_eqb c d (λ e. both_ways (is_special c) (not-true _ parts.1) (ap is_special e ∙ special))

abbrev no_operator : Text → Type 0
no_operator t = is_at "?*+{" t ≡ false

no_operator_behind : (ps : List WildcardPiece) (more : Text) (d : ℕ)
    → list_all is_fine_piece ps ≡ true → no_operator (d ∷ more)
    → no_operator (spelled ps ++ d ∷ more)
unfolding first
no_operator_behind [] more d fine none = none
no_operator_behind (Byte c ∷ ps) more d fine none =
    let own = (and_parts (is_plain c) _ fine).0 in
    rw (
      differs c 63 own refl,
      differs c 42 own refl,
      differs c 43 own refl,
      differs c 123 own refl,
    )
no_operator_behind (AnyText ∷ ps) more d fine none = refl

-- A piece is one item.
item_itself : (inner : Place → Option (Nested Re × Place)) (c : ℕ) (rest : Text)
    → is_plain c ≡ true → no_operator rest
    → item inner (at_text (c ∷ rest)) ≡ Some (part (Byte c), at_text rest)
unfolding item atom first char_meaning verbatim with_repetitions repetitions skip
item_itself inner c rest plain h =
    let small = ltb-true c 128 (and_parts (is_ascii c) _ plain).0 in
    rw (
      differs c 40 plain refl,
      differs c 63 plain refl,
      differs c 42 plain refl,
      differs c 43 plain refl,
      differs c 123 plain refl,
      differs c 91 plain refl,
      differs c 92 plain refl,
      differs c 46 plain refl,
      differs c 94 plain refl,
      differs c 36 plain refl,
      encode_ascii c small,
      add-one (length rest),
      h,
    )

no_question : (t : Text) → no_operator t → is_at "?" t ≡ false
unfolding first
no_question [] h = refl
no_question (c ∷ t) h = (or_parts (c == 63) _ h).0

item_any : (inner : Place → Option (Nested Re × Place)) (rest : Text) → no_operator rest
    → item inner (at_text (46 ∷ 42 ∷ rest)) ≡ Some (part AnyText, at_text rest)
unfolding grammar repetitions
item_any inner rest h =
    rw (add-one (length (42 ∷ rest)), no_question rest h, h)

not_empty : (c : ℕ) (t : Text) → is_empty (c ∷ t) ≡ false
not_empty c t = ne_eqb (length (c ∷ t)) 0 (λ e. absurd (omega (arith, e)))

-- Pieces are read up to the character that ends them.
pieces_read : (ps : List WildcardPiece) (more : Text) (d n : ℕ) → list_all is_fine_piece ps ≡ true
    → is_at "|)" (d ∷ more) ≡ true → no_operator (d ∷ more) → length (spelled ps) < n
    → items n (at_text (spelled ps ++ d ∷ more)) ≡ Some (map part ps, at_text (d ∷ more))
unfolding items skip first
pieces_read ps more d zero fine stops none h = absurd (omega (arith, h))
pieces_read [] more d (suc n) fine stops none h = rw (items, stops, not_empty d more)
pieces_read (Byte c ∷ ps) more d (suc n) fine stops none h =
    let own = and_parts (is_plain c) _ fine in
    let rest = spelled ps ++ d ∷ more in
    rw (
      not_empty c rest,
      differs c 124 own.0 refl,
      differs c 41 own.0 refl,
      item_itself _ c rest own.0 (no_operator_behind ps more d own.1 none),
      pieces_read ps more d n own.1 stops none (omega (arith, h)),
    )
pieces_read (AnyText ∷ ps) more d (suc n) fine stops none h =
    let rest = spelled ps ++ d ∷ more in
    rw (
      not_empty 46 (42 ∷ rest),
      item_any _ rest (no_operator_behind ps more d fine none),
      pieces_read ps more d n fine stops none (omega (arith, h)),
    )

branches_read : (ps : List WildcardPiece) (pss : List (List WildcardPiece)) (more : Text) (n : ℕ)
    → list_all (list_all is_fine_piece) (ps ∷ pss) ≡ true
    → length (join_with_byte 124 (map spelled (ps ∷ pss))) + 1 < n
    → branches n (at_text (join_with_byte 124 (map spelled (ps ∷ pss)) ++ 41 ∷ more))
    ≡ Some (map all_of (ps ∷ pss), at_text (41 ∷ more))
unfolding branches join_parts first
branches_read ps pss more zero fine h = absurd (omega (arith, h))
branches_read ps [] more (suc n) fine h =
    let own = pieces_read ps more 41 n (and_parts _ _ fine).0 refl refl (omega (arith, h)) in
    rw (branches, own)
branches_read ps (qs ∷ pss) more (suc n) fine h =
    let parts = and_parts _ _ fine in
    let w = spelled ps in
    let rest = join_with_byte 124 (map spelled (qs ∷ pss)) in
    let own = pieces_read ps (rest ++ 41 ∷ more) 124 n parts.0 refl refl (omega (arith, h, length-append w (124 ∷ rest))) in
    let others = branches_read qs pss more n parts.1 (omega (arith, h, length-append w (124 ∷ rest))) in
    rw (append_assoc w (124 ∷ rest) (41 ∷ more), branches, own, others)

-- Between the anchors is a group without a number.
pub anchored_read : (ps : List WildcardPiece) (pss : List (List WildcardPiece))
    → list_all (list_all is_fine_piece) (ps ∷ pss) ≡ true
    → option_map (λ (found, _). found.value)
    (read default_config (codes "^(?:" ++ join_with_byte 124 (map spelled (ps ∷ pss)) ++ codes ")$"))
    ≡ Some (anchored (ps ∷ pss))
unfolding read branches join_parts first items item skip atom char_meaning with_repetitions repetitions opening set_flags
anchored_read ps pss fine =
    let inside = join_with_byte 124 (map spelled (ps ∷ pss)) in
    let t = codes "^(?:" ++ inside ++ codes ")$" in
    let group = drop 1 t in
    let long = length-append inside (codes ")$") in
    let m = 2 * length t + 2 - 5 in
    let fuel : 2 * length t + 2 ≡ suc (suc (suc (suc (suc m)))) = omega (arith, long) in
    let read_inside = branches_read ps pss (codes "$") (suc (suc m)) fine (omega (arith, long)) in
    rw (fuel, not_empty 94 group, add-one (length group), not_empty 40 (drop 1 group), read_inside)
