-- What there is to object to in a value, in order, and the first fault. (This project's own;
-- pointers are those of RFC 6901.)
use Rattle.std.specs.Prelude.{◌≡◌, ◌⊎◌, ℕ, List, [], ◌∷◌, ◌++◌, map, nat_lt, if◌then◌else◌}
use Rattle.std.specs.Prelude.{Option, Some, None}
use Rattle.am_universe.specs.declared.kind.Kind.{Kind}
use Rattle.am_universe.specs.declared.kind.Kind.TheVariants as kinds
use Rattle.am_json.specs.Pointer.{Refusal, refusal_within}

-- An objection to a value: a fault, which has a kind and the pointer to a part; or the pointer to a
-- pattern of the profile, which the engine may refuse to build.
-- Source: own choice; pointers are those of RFC 6901.
-- Example: the universe file
-- `{"x": 1, "labels": [{"name": "9", "values": [null]}], "impossible": ["a=~b"]}` has three
-- objections, in this order: `unknown-field` at `/x`, `shape` at `/labels/0/name`, and the pattern
-- at `/impossible/0`.
pub data Objection : Type 0 where
  a_fault : Refusal → Objection
  a_pattern : List ℕ → Objection

-- The same objections, as seen from the value that has the part: the pointer to the part is put in
-- front of each pointer.
abbrev pub objection_within : List ℕ → Objection → Objection
objection_within part (a_fault r) = a_fault (refusal_within part r)
objection_within part (a_pattern pointer) = a_pattern (part ++ pointer)

abbrev pub objections_within : List ℕ → List Objection → List Objection
objections_within part objections = map (objection_within part) objections

-- The first fault.
-- Source: own choice.
-- Example: of the objections above, it is `unknown-field` at `/x`. Without that field, it is
-- `shape` at `/labels/0/name`.
abbrev pub first_fault : List Objection → Option Refusal
first_fault [] = None
first_fault (a_fault r ∷ more) = Some r
first_fault (a_pattern pointer ∷ more) = first_fault more

-- The pointers of the patterns before the first fault, or of all patterns if there is no fault.
abbrev pub patterns_before : List Objection → List (List ℕ)
patterns_before [] = []
patterns_before (a_fault r ∷ more) = []
patterns_before (a_pattern pointer ∷ more) = pointer ∷ patterns_before more

-- The refusal is for one of these objections, and no fault comes before that one: it is the first
-- fault, or the engine's refusal of a pattern.
-- Source: own choice.
-- Example: a file whose objections are the pattern at `/impossible/0` and then `limit` at
-- `/impossible/1` is refused as `limit` there, or as `pattern` at `/impossible/0`.
abbrev pub IsRefusedFor : List Objection → Refusal → Type 0
IsRefusedFor [] r = ⊥
IsRefusedFor (a_fault found ∷ more) r = r ≡ found
IsRefusedFor (a_pattern pointer ∷ more) r =
    (r ≡ record { kind = kinds.Pattern; pointer = pointer }) ⊎ IsRefusedFor more r

-- What is wrong with a count: `limit` if it is more than the limit.
abbrev pub limit_fault : ℕ → ℕ → Option Kind
limit_fault limit count = if nat_lt limit count then Some kinds.Limit else None
