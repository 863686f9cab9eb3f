-- The places of the patterns of matchers.
use Rattle.std.specs.Prelude.{◌≡◌, ℕ, List, Bool, true, false, Option, Some, None, length}
use Rattle.std.specs.Prelude.{[], ◌∷◌, ◌<◌, slice_get, slice_index_or}
use Rattle.std.specs.Global.{Vec}
use Rattle.am_labels.specs.Matcher.{Matcher}
use Rattle.am_scan.specs.Arrivals.{items_at}
use Rattle.am_scan.specs.Closure.{contains}
use Rattle.am_classes.specs.Named.{names_texts}
use Rattle.am_classes.specs.Places.{places_where}
use denote.Ref.{Bor}

-- A matcher has its pattern at a place among some patterns, or no place, since it names texts.
-- Source: own choice.
-- Example: with the pattern `w.*` alone, `team=~"w.*"` has the place 0, and `team="db"` has none.
abbrev pub IsPlaced : List (Bor (List ℕ)) → Matcher → Option ℕ → Type 0
IsPlaced patterns m None = names_texts m ≡ true
IsPlaced patterns m (Some place) =
    (names_texts m ≡ false) × (pattern : Bor (List ℕ)) × (slice_get patterns place ≡ Some pattern)
    × (pattern.now ≡ m.value)

-- For each matcher, the place of its pattern, or none.
pub record ArePlaced (matchers : List (Bor Matcher)) (patterns : List (Bor (List ℕ)))
    (places : List (Option ℕ)) : Type 0 where
  pub count : length places ≡ length matchers
  pub each : (k : ℕ) (m : Bor Matcher) (place : Option ℕ) → slice_get matchers k ≡ Some m
      → slice_get places k ≡ Some place → IsPlaced patterns m.now place

-- A place is there, and is one of those that are found.
abbrev pub is_found : List ℕ → Option ℕ → Bool
is_found found None = false
is_found found (Some place) = contains found place

-- For each pattern, the places of the matchers that have it.
-- Source: own choice.
-- Example: for `team=~"w.*"`, `team="db"` and `team!~"w.*"`, those of `w.*` are 0 and 2.
abbrev pub ArePlacesWith : List (Option ℕ) → List (Vec ℕ) → Type 0
ArePlacesWith patterns lists =
    (k : ℕ) → k < length lists
    → items_at lists k ≡ places_where (is_found (k ∷ [])) patterns

-- A place is there, and marked.
abbrev pub is_marked : List Bool → Option ℕ → Bool
is_marked marks None = false
is_marked marks (Some place) = slice_index_or marks place false
