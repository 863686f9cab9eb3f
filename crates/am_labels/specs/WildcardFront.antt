-- How an alternative of a pattern and a text begin.
use Rattle.std.specs.Prelude.{◌≡◌, ℕ, ◌<◌, ◌≤◌, List, ◌∷◌, ◌++◌, length, map, true, false, ⊤}
use Rattle.am_labels.specs.Wildcards.{matches, pieces_of}
use Rattle.am_labels.specs.declared.wildcard_match.Front.{Front}
use Rattle.am_labels.specs.declared.wildcard_match.Front.TheVariants.{Whole, Differs, AtAnyText}
use Rattle.am_labels.specs.declared.wildcards.WildcardPiece.TheVariants as pieces

-- What is found of an alternative and a text is so.
-- Source: own choice.
-- Example: of `db.*2` and `db12` behind `.*` are `2` and `12`. `db` and `db1` differ.
abbrev pub IsFront : List ℕ → List ℕ → Front → Type 0
IsFront a text Whole = matches (pieces_of a) text ≡ true
IsFront a text Differs = matches (pieces_of a) text ≡ false
IsFront a text (AtAnyText behind rest) =
    (plain : List ℕ) × (text ≡ plain ++ rest.now)
    × (pieces_of a ≡ map pieces.Byte plain ++ pieces.AnyText ∷ pieces_of behind.now)

-- What is behind `.*` is shorter.
abbrev pub IsShorter : List ℕ → List ℕ → Front → Type 0
IsShorter a text (AtAnyText behind rest) =
    (length behind.now < length a) × (length rest.now ≤ length text)
IsShorter a text other = ⊤
