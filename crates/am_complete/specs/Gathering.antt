-- What is kept while matchers are gathered: the position of each label by its name.
use Rattle.std.specs.Prelude.{◌≡◌, ◌↔◌, ℕ, List, Option, Some, slice_get}
use Rattle.std.specs.BTreeMap.{BTreeMap, get_by}
use Rattle.std.specs.Ordering.{nat_cmp}
use Rattle.std.specs.Cmp.Lexicographic.{slice_cmp}
use Rattle.am_complete.specs.AskedLabel.{AskedLabel, asked_names}
use denote.Ref.{Bor}

-- The position that a map has for a name.
abbrev pub position_in : BTreeMap (Bor (List ℕ)) ℕ → List ℕ → Option ℕ
position_in positions name = get_by (λ k. slice_cmp nat_cmp name k.now) positions

-- A map has the position of each label under its name, and no other.
abbrev pub IsIndexed : BTreeMap (Bor (List ℕ)) ℕ → List AskedLabel → Type 0
IsIndexed positions labels =
    (name : List ℕ) (i : ℕ) →
    (position_in positions name ≡ Some i ↔ (slice_get (asked_names labels) i ≡ Some name))
