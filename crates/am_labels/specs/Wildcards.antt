-- Patterns that are made of plain characters, `.*` and the bar. What they find can be said without
-- the grammar of patterns.
use Rattle.std.specs.Prelude.{ℕ, List, [], ◌∷◌, Bool, true, false, not, ◌&&◌, ◌||◌, ◌==◌, codes}
use Rattle.std.specs.Prelude.{if◌then◌else◌, map}
use Rattle.std.specs.List.{list_all, list_any, slice_split}
use Rattle.std.specs.Char.{is_ascii}
use Rattle.am_labels.specs.declared.wildcards.WildcardPiece.{WildcardPiece}
use Rattle.am_labels.specs.declared.wildcards.WildcardPiece.TheVariants.{Byte, AnyText}

-- A character of ASCII stands for itself in a pattern. Outside a class, this is each character that
-- no form of the grammar begins with or goes on with.
-- Source: documentation of the crate `regex` 1, "Syntax".
-- Example: `-` and the blank do. The dot and the bar do not.
abbrev pub is_plain : ℕ → Bool
is_plain c = is_ascii c && not (list_any (λ d. d == c) (codes "\\.+*?()|[]{}^$"))

-- The texts that the bars of a pattern separate.
-- Source: documentation of the crate `regex` 1, "Syntax": the bar separates alternatives.
-- Example: those of `db|web` are `db` and `web`. Those of `|` are two empty texts.
abbrev pub alternatives : List ℕ → List (List ℕ)
alternatives p = slice_split (λ c. c == 124) p

-- A pattern is an alternation of plain texts: each of its characters is the bar, or stands for
-- itself.
-- Source: own choice: many patterns of configurations are such ones.
-- Example: `db|web-1` is one, and so is `db`. `db.*` and `web\.1` are not.
abbrev pub is_alternation : List ℕ → Bool
is_alternation p = list_all (λ c. c == 124 || is_plain c) p

-- The pieces of an alternative. `.*` is one piece, and each other byte is one.
-- Source: documentation of the crate `regex` 1, "Syntax": the dot matches any character but a line
-- feed, and the asterisk repeats what is before it.
-- Example: `db.*` has the pieces `d`, `b` and `.*`.
abbrev pub pieces_of : List ℕ → List WildcardPiece
pieces_of [] = []
pieces_of (c ∷ []) = Byte c ∷ []
pieces_of (c ∷ d ∷ p) =
    if c == 46 && d == 42 then AnyText ∷ pieces_of p else Byte c ∷ pieces_of (d ∷ p)

-- A pattern has wildcards alone: each piece of its alternatives is `.*` or stands for itself.
-- Source: own choice: most patterns of configurations are such ones; the term is that of shells.
-- Example: `db.*|.*web` does, and so does `db|web`. `db.` and `web\.1` do not.
abbrev pub is_fine_piece : WildcardPiece → Bool
is_fine_piece (Byte c) = is_plain c
is_fine_piece AnyText = true

abbrev pub is_wildcards : List ℕ → Bool
is_wildcards p = list_all (λ a. list_all is_fine_piece (pieces_of a)) (alternatives p)

-- Pieces match a whole text. A byte matches itself, and `.*` any bytes that are no line feed.
-- Source: documentation of the crate `regex` 1, "Syntax". What `.*` matches are characters; in
-- UTF-8 no other piece can begin inside one, so bytes serve.
-- Example: those of `d.*b` match `db` and `dab`, and not `dba`.
abbrev pub is_nothing : List ℕ → Bool
is_nothing [] = true
is_nothing (b ∷ t) = false

abbrev pub after_any : (List ℕ → Bool) → List ℕ → Bool
after_any rest [] = rest []
after_any rest (b ∷ t) = rest (b ∷ t) || (not (b == 10) && after_any rest t)

abbrev pub after_byte : ℕ → (List ℕ → Bool) → List ℕ → Bool
after_byte c rest [] = false
after_byte c rest (b ∷ t) = c == b && rest t

abbrev pub matches : List WildcardPiece → List ℕ → Bool
matches [] text = is_nothing text
matches (Byte c ∷ ps) text = after_byte c (matches ps) text
matches (AnyText ∷ ps) text = after_any (matches ps) text

-- A pattern that has wildcards alone finds a text: one of its alternatives matches it.
-- Source: own choice; a law says that the grammar of patterns means the same.
-- Example: `db.*|web` finds `db1` and `web`, and not `web1`.
abbrev pub wildcards_find : List ℕ → List ℕ → Bool
wildcards_find p text = list_any (λ a. matches (pieces_of a) text) (alternatives p)

-- What matters about a text that is read from its end: for each alternative, whether all of its
-- pieces match it, those behind the first, those behind the second, and so on to no piece.
-- Source: own choice; a set of positions in a pattern is the usual state of an automaton for it.
-- Example: for `db` and the text `b`, the pieces `d`, `b` do not match it, `b` alone does, and no
-- piece does not.
abbrev pub rest_matches : List WildcardPiece → List ℕ → List Bool
rest_matches [] text = is_nothing text ∷ []
rest_matches (p ∷ ps) text = matches (p ∷ ps) text ∷ rest_matches ps text

abbrev pub wildcards_state : List ℕ → List ℕ → List (List Bool)
wildcards_state p text = map (λ a. rest_matches (pieces_of a) text) (alternatives p)
