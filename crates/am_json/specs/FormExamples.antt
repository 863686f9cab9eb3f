-- How examples build JSON values from lists, and worked examples of what forms make of values.
use Rattle.std.specs.Prelude.{ℕ, List, [], ◌∷◌, Some, true, codes, ⊤}
use Rattle.serde_json.specs.Data.{Data, null, boolean, string, array, object, Members, no_members}
use Rattle.serde_json.specs.Data.{member}
use Rattle.serde_json.specs.View.{items_of}
use Rattle.am_universe.specs.declared.kind.Kind.{Kind}
use Rattle.am_universe.specs.declared.kind.Kind.TheVariants as kinds
use Rattle.am_json.specs.Objections.{Objection, a_fault, a_pattern}
use Rattle.am_json.specs.Pointer.{Refusal}
use Rattle.am_json.specs.Reading.{Reading, ◌>>=◌, refuse_for}

-- `object_of` is an object with these members, and `array_of` an array with these items.
abbrev pub members_of : List (List ℕ × Data) → Members
members_of [] = no_members
members_of (pair ∷ pairs) = member pair.0 pair.1 (members_of pairs)

abbrev pub object_of : List (List ℕ × Data) → Data
object_of pairs = object (members_of pairs)

abbrev pub array_of : List Data → Data
array_of ds = array (items_of ds)

-- A refusal of this kind at this pointer.
abbrev pub refused_at : Kind → List ℕ → Refusal
refused_at kind pointer = record { kind = kind; pointer = pointer }

-- `{"z": true, "y": null, "b": true}`. Its fields that are not `null` are `b` and `z`, in the order
-- of the bytes of their keys.
abbrev pub three_fields : Data
three_fields = object_of
    ((codes "z", boolean true) ∷ (codes "y", null) ∷ (codes "b", boolean true) ∷ [])

-- `["db", true, null]`
abbrev pub three_items : List Data
three_items = string (codes "db") ∷ boolean true ∷ null ∷ []

-- Two checks, one after the other. Both find a fault.
abbrev pub two_checks : Reading ⊤
two_checks = refuse_for (Some kinds.Empty) >>= λ _. refuse_for (Some kinds.Limit)

-- A pattern, then a fault, and then another pattern.
abbrev pub three_objections : List Objection
three_objections =
    a_pattern (codes "/a") ∷ a_fault (refused_at kinds.Limit (codes "/b")) ∷ a_pattern (codes "/c")
    ∷ []
