-- Which characters patterns can tell apart.
use Rattle.std.specs.Prelude.{◌≡◌, ◌⊎◌, ℕ, ◌<◌, ◌≤◌, true, false, List, [], ◌∷◌}
use Rattle.std.specs.Prelude.{Some, slice_get, encode_utf8, encode_utf8_all}
use Rattle.std.specs.Char.{IsScalar, len_utf8}
use Rattle.std.specs.Str.{all_scalars}
use Rattle.std.specs.List.{AllByRecursion}
use Rattle.regex_class.specs.Ranges.{Range, in_ranges}
use Rattle.regex_class.specs.declared.Class.{Class}
use Rattle.regex_hir.specs.Re.{Re, empty, literal, byte_in, char_in, look, cat, alt, group, plus}
use Rattle.am_labels.specs.Pattern.{finds}
use Rattle.am_scan.specs.Closure.{contains}
use Rattle.am_scan.specs.Sight.{sees, is_scanned, IsScanned}
use Rattle.am_scan.specs.declared.byte_set.ByteSet.{ByteSet}
use Rattle.am_scan.specs.declared.character_sets.CharacterSets.{CharacterSets}

-- Two characters are of one kind: neither is of ASCII, both take as many bytes, they are in the
-- same sets, and neither stands by itself.
-- Source: own choice.
-- Example: to the classes of `\w`, `é` and `ü` are of one kind, and `é` and `©` are not.
pub record AreOfOneKind (sets : List Class) (singles : List ℕ) (c d : ℕ) : Type 0 where
  pub wide : (128 ≤ c) × (128 ≤ d)
  pub len : len_utf8 c ≡ len_utf8 d
  pub same : (k : ℕ) (set : Class) → slice_get sets k ≡ Some set
      → in_ranges set.ranges.items c ≡ in_ranges set.ranges.items d
  pub free : (contains singles c ≡ false) × (contains singles d ≡ false)

-- Two characters are alike: they are the same, or of one kind. And a character is alike to itself
-- alone; two texts are alike if their characters are, each to the one at its place.
abbrev pub AreAlike : CharacterSets → ℕ → ℕ → Type 0
AreAlike s c d = (c ≡ d) ⊎ AreOfOneKind s.sets.items s.singles.items c d

abbrev pub IsAlone : CharacterSets → ℕ → Type 0
IsAlone s c = (d : ℕ) → AreAlike s c d ⊎ AreAlike s d c → c ≡ d

abbrev pub AreAlikeTexts : CharacterSets → List ℕ → List ℕ → Type 0
AreAlikeTexts s [] [] = Unit {0}
AreAlikeTexts s (c ∷ cs) (d ∷ ds) = AreAlike s c d × AreAlikeTexts s cs ds
AreAlikeTexts s cs ds = ⊥

-- Sets and characters were added: what is alike now was alike before.
abbrev pub Narrows : CharacterSets → CharacterSets → Type 0
Narrows old new = (c d : ℕ) → AreAlike new c d → AreAlike old c d

-- One of some sets has exactly these ranges.
abbrev pub HasSet : List Class → List Range → Type 0
HasSet sets ranges =
    (k : ℕ) × (set : Class) × (slice_get sets k ≡ Some set) × (set.ranges.items ≡ ranges)

-- A pattern cannot tell alike texts apart: it finds both or neither.
-- Source: own choice.
-- Example: `a\w` cannot tell `aé` and `aü` apart.
abbrev pub CannotTell : CharacterSets → List ℕ → Type 0
CannotTell s p =
    (cs ds : List ℕ) → all_scalars cs ≡ true → all_scalars ds ≡ true → AreAlikeTexts s cs ds
    → finds p (encode_utf8_all cs) ≡ finds p (encode_utf8_all ds)

-- What was read in a pattern asks nothing that tells alike characters apart.
-- Source: own choice.
-- Example: the literal `é` is so if `é` stands by itself.
abbrev pub IsBlind : CharacterSets → Re → Type 0
IsBlind s empty = Unit {0}
IsBlind s (literal bs) =
    (cs : List ℕ) × (all_scalars cs ≡ true) × (encode_utf8_all cs ≡ bs)
    × AllByRecursion (IsAlone s) cs
IsBlind s (byte_in rs) = (c : ℕ) → in_ranges rs c ≡ true → c < 128
IsBlind s (char_in rs) = (c d : ℕ) → AreAlike s c d → in_ranges rs c ≡ in_ranges rs d
IsBlind s (look l) = sees (record { lines = true; words = false }) l ≡ true
IsBlind s (cat a b) = IsBlind s a × IsBlind s b
IsBlind s (alt a b) = IsBlind s a × IsBlind s b
IsBlind s (group n a) = IsBlind s a
IsBlind s (plus greedy a) = IsBlind s a

-- Each character is alike to one that has only certain bytes.
-- Source: own choice.
-- Example: to the classes of `\w`, this is so for the bytes of ASCII and those of six characters.
abbrev pub HaveRepresentatives : CharacterSets → ByteSet → Type 0
HaveRepresentatives s bytes =
    (c : ℕ) → IsScalar c → (d : ℕ) × IsScalar d × AreAlike s c d × IsScanned bytes (encode_utf8 d)

-- A set of bytes grows.
abbrev pub Widens : ByteSet → ByteSet → Type 0
Widens old new = (b : ℕ) → is_scanned old b ≡ true → is_scanned new b ≡ true

-- If a set has a character, one of its characters has only certain bytes.
abbrev pub HasFirst : List Range → ByteSet → Type 0
HasFirst set bytes =
    (c : ℕ) → in_ranges set c ≡ true → (d : ℕ) × (d ≤ 0x10_FFFF) × (in_ranges set d ≡ true)
    × (IsScalar d → IsScanned bytes (encode_utf8 d))

-- One of some sets has a character.
abbrev pub HasMember : List Class → ℕ → Type 0
HasMember parts c =
    (k : ℕ) × (part : Class) × (slice_get parts k ≡ Some part)
    × (in_ranges part.ranges.items c ≡ true)

-- Parts are kinds of characters: each character that is not of ASCII and does not stand by itself
-- is in a part, and two of one part are of one kind.
pub record AreParts (sets : List Class) (singles : List ℕ) (parts : List Class) : Type 0 where
  pub all : (c : ℕ) → IsScalar c → 128 ≤ c → contains singles c ≡ false → HasMember parts c
  pub own : (k c : ℕ) (part : Class) → slice_get parts k ≡ Some part → c ≤ 0x10_FFFF
      → in_ranges part.ranges.items c ≡ true → IsScalar c
  pub alike : (k c d : ℕ) (part : Class) → slice_get parts k ≡ Some part → c ≤ 0x10_FFFF
      → d ≤ 0x10_FFFF → in_ranges part.ranges.items c ≡ true → in_ranges part.ranges.items d ≡ true
      → AreOfOneKind sets singles c d

-- Pieces are parts, split by a set: each is within a part, and within the set or outside of it.
pub record AreSplit (parts : List Class) (set : List Range) (pieces : List Class) : Type 0 where
  pub all : (c : ℕ) → c ≤ 0x10_FFFF → HasMember parts c → HasMember pieces c
  pub within : (k : ℕ) (piece : Class) → slice_get pieces k ≡ Some piece
      → (j : ℕ) × (part : Class) × (slice_get parts j ≡ Some part)
      × ((c : ℕ) → c ≤ 0x10_FFFF → in_ranges piece.ranges.items c ≡ true
      → in_ranges part.ranges.items c ≡ true)
      × ((c d : ℕ) → c ≤ 0x10_FFFF → d ≤ 0x10_FFFF → in_ranges piece.ranges.items c ≡ true
      → in_ranges piece.ranges.items d ≡ true → in_ranges set c ≡ in_ranges set d)
