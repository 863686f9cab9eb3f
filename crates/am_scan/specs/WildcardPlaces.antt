-- The places of a pattern with wildcards, and what matters there about a text.
use Rattle.std.specs.Prelude.{◌≡◌, ℕ, suc, ◌-◌, ◌<◌, nat_eq, nat_lt, ◌==◌, Bool, true, false, not}
use Rattle.std.specs.Prelude.{◌&&◌, ◌||◌, if◌then◌else◌, Option, Some, None, List, [], ◌∷◌, ◌++◌}
use Rattle.std.specs.Prelude.{map, length, slice_get, slice_index, slice_index_or}
use Rattle.std.specs.Cmp.Lexicographic.{pointwise}
use Rattle.std.specs.Global.{Vec}
use Rattle.std.specs.List.{list_any, flat_map, IsDistinct}
use Rattle.am_labels.specs.Wildcards.{alternatives, pieces_of, is_nothing, after_any, after_byte}
use Rattle.am_labels.specs.declared.wildcards.WildcardPiece.{WildcardPiece}
use Rattle.am_labels.specs.declared.wildcards.WildcardPiece.TheVariants.{Byte, AnyText}
use Rattle.am_scan.specs.declared.row.Row.{Row}
use Rattle.am_scan.specs.declared.wildcard_place.WildcardPlace.{WildcardPlace}

-- The places of a pattern: for each alternative those of its bytes, and its end. `.*` has no place
-- of its own; the next place says that it stands there.
-- Source: own choice.
-- Example: those of `a.*` are `a` and the end, which has `.*` before it.
abbrev pub places_from : Bool → Bool → List WildcardPiece → List WildcardPlace
places_from after_any first [] =
    record { byte = None; after_any = after_any; first = first } ∷ []
places_from after_any first (AnyText ∷ pieces) = places_from true first pieces
places_from after_any first (Byte c ∷ pieces) =
    record { byte = Some c; after_any = after_any; first = first }
    ∷ places_from false false pieces

abbrev pub all_places : List ℕ → List WildcardPlace
all_places p = flat_map (places_from false true) (map pieces_of (alternatives p))

-- What stands from the first place on, with the `.*` before it, matches a whole text, up to the end
-- of its alternative.
-- Source: own choice.
-- Example: for `ab|c`, the place of `b` does so for the text `b` alone.
abbrev pub with_any : Bool → (List ℕ → Bool) → List ℕ → Bool
with_any true rest = after_any rest
with_any false rest = rest

abbrev pub own_byte : Option ℕ → (List ℕ → Bool) → List ℕ → Bool
own_byte None rest = is_nothing
own_byte (Some c) rest = after_byte c rest

abbrev pub matches_from : List WildcardPlace → List ℕ → Bool
matches_from [] text = false
matches_from (p ∷ ps) text = with_any p.after_any (own_byte p.byte (matches_from ps)) text

-- The marks of a text: for each place, whether what stands from there on matches the text.
-- Source: own choice; a set of positions in a pattern is the usual state of an automaton for it.
-- Example: for `ab` and the text `b`, the place of `b` alone is marked.
abbrev pub marks : List WildcardPlace → List ℕ → List Bool
marks [] text = []
marks (p ∷ ps) text = matches_from (p ∷ ps) text ∷ marks ps text

-- The positions of marks, from the last to the first.
-- Source: own choice.
-- Example: if the first and the third of three places are marked, they are 2 and 0.
abbrev pub positions : ℕ → List Bool → List ℕ
positions at [] = []
positions at (m ∷ ms) = positions (suc at) ms ++ (if m then at ∷ [] else [])

abbrev pub marked_places : List WildcardPlace → List ℕ → List ℕ
marked_places places text = positions 0 (marks places text)

-- The place at a position. Past the last there is none that could be marked.
abbrev pub place_at : List WildcardPlace → ℕ → WildcardPlace
place_at places at =
    slice_index_or places at (record { byte = None; after_any = false; first = false })

abbrev pub is_first_at : List WildcardPlace → ℕ → Bool
is_first_at places at = (place_at places at).first

abbrev pub has_byte : ℕ → Option ℕ → Bool
has_byte b None = false
has_byte b (Some c) = c == b

abbrev pub is_byte : ℕ → WildcardPlace → Bool
is_byte b p = has_byte b p.byte

-- A number is the last of some numbers.
abbrev pub is_last : List ℕ → ℕ → Bool
is_last [] n = false
is_last (x ∷ []) n = x == n
is_last (x ∷ y ∷ xs) n = is_last (y ∷ xs) n

-- The places so far that a byte marks, with those that a marked place adds: the place itself, and
-- the one before it.
abbrev pub push_next : List WildcardPlace → ℕ → List ℕ → ℕ → List ℕ
push_next places b next at =
    let stayed = if (place_at places at).after_any && (not (b == 10) && not (is_last next at))
    then next ++ at ∷ [] else next in
    if nat_lt 0 at && is_byte b (place_at places (at - 1)) then stayed ++ (at - 1) ∷ [] else stayed

-- A byte is a symbol of some places if the places treat it differently from most: it is the line
-- feed, or one of the bytes.
-- Source: own choice.
-- Example: `a` and the line feed are the symbols of the places of `a.*`.
abbrev pub is_symbol : List WildcardPlace → ℕ → Bool
is_symbol places b = b == 10 || list_any (is_byte b) places

-- Two bytes are alike to some places: before any text, they mark the same places.
-- Source: own choice.
-- Example: to the places of `a.*`, `x` and `y` are alike.
abbrev pub AreAlike : List WildcardPlace → ℕ → ℕ → Type 0
AreAlike places b s =
    (text : List ℕ) → marked_places places (b ∷ text) ≡ marked_places places (s ∷ text)

-- The class of a byte is the position of a symbol that is alike.
abbrev pub HasClass : List WildcardPlace → List ℕ → List ℕ → ℕ → Type 0
HasClass places symbols classes b =
    (s : ℕ) × (slice_get symbols (slice_index classes b) ≡ Some s) × AreAlike places b s

-- A number is that of a text: its state has the marked places of the text.
-- Source: own choice.
-- Example: 0 is the number of the empty text.
abbrev pub IsNumberOf : List WildcardPlace → List (Vec ℕ) → ℕ → List ℕ → Type 0
IsNumberOf places states number text =
    (state : Vec ℕ) × (slice_get states number ≡ Some state)
    × (state.items ≡ marked_places places text)

-- Each state has the marked places of some text.
abbrev pub AreReached : List WildcardPlace → List (Vec ℕ) → Type 0
AreReached places states =
    (k : ℕ) (state : Vec ℕ) → slice_get states k ≡ Some state
    → (text : List ℕ) × (state.items ≡ marked_places places text)

-- Two states are the same: they have the same marked places.
abbrev pub same_state : Vec ℕ → Vec ℕ → Bool
same_state x y = pointwise nat_eq x.items y.items

-- The numbers lead on by the symbol at a position: to the number of the longer text.
abbrev pub LeadOn : List WildcardPlace → List ℕ → List (Vec ℕ) → List ℕ → List ℕ → ℕ → Type 0
LeadOn places symbols states here numbers k =
    (s : ℕ) (text : List ℕ) → slice_get symbols k ≡ Some s → here ≡ marked_places places text
    → IsNumberOf places states (slice_index numbers k) (s ∷ text)

-- A row says where the texts with some marked places lead, and whether an alternative matches them.
-- Source: own choice.
-- Example: for the places of `ab`, the row of the empty text leads by `b` to the state of `b`.
pub record IsRowOf (places : List WildcardPlace) (symbols : List ℕ) (states : List (Vec ℕ))
    (here : List ℕ) (row : Row) : Type 0 where
  pub found : row.found ≡ list_any (is_first_at places) here
  pub leads : (k : ℕ) → k < length symbols → LeadOn places symbols states here row.next.items k

-- The states and the rows of a pattern: the first state is that of the empty text, each state has a
-- row, and no two states are the same.
pub record AreStates (places : List WildcardPlace) (symbols : List ℕ) (rows : List Row)
    (states : List (Vec ℕ)) : Type 0 where
  pub some : 0 < length states
  pub count : length rows ≡ length states
  pub first : (state : Vec ℕ) → slice_get states 0 ≡ Some state
      → state.items ≡ marked_places places []
  pub each : (k : ℕ) (state : Vec ℕ) (row : Row) → slice_get states k ≡ Some state
      → slice_get rows k ≡ Some row → IsRowOf places symbols states state.items row
  pub unique : IsDistinct same_state states
