-- Worked examples of the first fault of universe files, and of exports of silences and of alerts.
use Rattle.std.specs.Prelude.{ℕ, List, [], ◌∷◌, replicate, Option, Some, None, codes}
use Rattle.serde_json.specs.Data.{Data, null, number, string, unsigned}
use Rattle.am_universe.specs.declared.kind.Kind.{Kind}
use Rattle.am_universe.specs.declared.kind.Kind.TheVariants as kinds
use Rattle.am_json.specs.Pointer.{Refusal}
use Rattle.am_json.specs.FormExamples.{object_of, array_of, refused_at}

-- A number.
abbrev pub one : Data
one = number (unsigned 1)

-- A first fault: this kind at this pointer.
abbrev pub at : Kind → List ℕ → Option Refusal
at kind pointer = Some (refused_at kind pointer)

-- ---- Universe files.

-- A label with this name and these values, and a file with only these labels.
abbrev pub label : Data → List Data → Data
label name values = object_of ((codes "name", name) ∷ (codes "values", array_of values) ∷ [])

abbrev pub labels_file : List Data → Data
labels_file labels = object_of ((codes "labels", array_of labels) ∷ [])

abbrev pub team : Data
team = string (codes "team")

-- A file with one label, and with these values in `impossible`.
abbrev pub impossible_file : List Data → Data
impossible_file values = object_of
    ((codes "labels", array_of (label team (null ∷ []) ∷ []))
    ∷ (codes "impossible", array_of values) ∷ [])

-- Universe files with their first faults, if they have any.
abbrev pub universe_faults : List (Data × Option Refusal)
universe_faults =
    -- not an object, no labels, and labels that are not an array
    (one, at kinds.Shape (codes ""))
    ∷ (object_of [], at kinds.Shape (codes "/labels"))
    ∷ (object_of ((codes "labels", one) ∷ []), at kinds.Shape (codes "/labels"))
    -- an unknown field comes before all other faults of an object; a field that is `null` is absent
    ∷ (
      object_of ((codes "labels", one) ∷ (codes "x", one) ∷ []),
      at kinds.UnknownField (codes "/x"),
    )
    ∷ (object_of ((codes "labels", array_of []) ∷ (codes "x", null) ∷ []), None)
    -- the name comes before the values: absent, not a text, empty, not a label name, and a
    -- duplicate
    ∷ (labels_file (object_of [] ∷ []), at kinds.Shape (codes "/labels/0/name"))
    ∷ (labels_file (label one [] ∷ []), at kinds.Shape (codes "/labels/0/name"))
    ∷ (labels_file (label (string []) [] ∷ []), at kinds.Empty (codes "/labels/0/name"))
    ∷ (labels_file (label (string (codes "9")) [] ∷ []), at kinds.Shape (codes "/labels/0/name"))
    ∷ (
      labels_file (label team (null ∷ []) ∷ label team [] ∷ []),
      at kinds.Duplicate (codes "/labels/1/name"),
    )
    -- values: none, one that is neither a text nor `null`, an empty one, and one that occurs twice
    ∷ (labels_file (label team [] ∷ []), at kinds.Empty (codes "/labels/0/values"))
    ∷ (labels_file (label team (null ∷ one ∷ []) ∷ []), at kinds.Shape (codes "/labels/0/values/1"))
    ∷ (labels_file (label team (string [] ∷ []) ∷ []), at kinds.Empty (codes "/labels/0/values/0"))
    ∷ (
      labels_file (label team (null ∷ null ∷ []) ∷ []),
      at kinds.Duplicate (codes "/labels/0/values/1"),
    )
    -- items of `impossible`: not a text, a text that spells no list, and one that spells the empty
    -- list
    ∷ (impossible_file (one ∷ []), at kinds.Shape (codes "/impossible/0"))
    ∷ (
      impossible_file (string (codes "team") ∷ one ∷ []),
      at kinds.BadMatcher (codes "/impossible/0"),
    )
    ∷ (impossible_file (string (codes "{}") ∷ string (codes "team=db") ∷ []), None)
    ∷ []

-- ---- Exports of silences.

-- A matcher, and an export of one silence with these matchers.
abbrev pub matcher : Data → Data → Data
matcher name value = object_of ((codes "name", name) ∷ (codes "value", value) ∷ [])

abbrev pub silence_with : List Data → Data
silence_with matchers = array_of (object_of ((codes "matchers", array_of matchers) ∷ []) ∷ [])

-- Exports with their first faults, if they have any.
abbrev pub silence_faults : List (Data × Option Refusal)
silence_faults =
    -- neither an array nor `null`, then `null`, and a silence that is not an object
    (object_of [], at kinds.Shape (codes ""))
    ∷ (null, None)
    ∷ (array_of (one ∷ []), at kinds.Shape (codes "/0"))
    -- the matchers of a silence come before its instants: absent, none, and not an object
    ∷ (array_of (object_of [] ∷ []), at kinds.Shape (codes "/0/matchers"))
    ∷ (silence_with [], at kinds.Empty (codes "/0/matchers"))
    ∷ (silence_with (one ∷ []), at kinds.Shape (codes "/0/matchers/0"))
    -- an empty name, a value that is not a text, and a flag that is not a truth value
    ∷ (silence_with (matcher (string []) one ∷ []), at kinds.Empty (codes "/0/matchers/0/name"))
    ∷ (silence_with (matcher team one ∷ []), at kinds.Shape (codes "/0/matchers/0/value"))
    ∷ (
      silence_with (object_of ((codes "isRegex", one) ∷ (codes "name", team)
          ∷ (codes "value", team) ∷ []) ∷ []),
      at kinds.Shape (codes "/0/matchers/0/isRegex"),
    )
    -- then the instants, `startsAt` before `endsAt`
    ∷ (silence_with (matcher team team ∷ []), at kinds.Shape (codes "/0/startsAt"))
    ∷ []

-- ---- Exports of alerts.

-- An export of one alert with these labels.
abbrev pub alert_with : List (List ℕ × Data) → Data
alert_with labels = array_of (object_of ((codes "labels", object_of labels) ∷ []) ∷ [])

-- Exports with their first faults, if they have any.
abbrev pub alert_faults : List (Data × Option Refusal)
alert_faults =
    (object_of [], at kinds.Shape (codes ""))
    ∷ (null, None)
    ∷ (array_of (one ∷ []), at kinds.Shape (codes "/0"))
    ∷ (array_of (object_of [] ∷ []), at kinds.Shape (codes "/0/labels"))
    ∷ (alert_with ((codes "team", one) ∷ []), at kinds.Shape (codes "/0/labels/team"))
    -- an empty name comes before a value that is not a text
    ∷ (alert_with ((codes "", one) ∷ []), at kinds.Empty (codes "/0/labels/"))
    -- 256 labels, and 257
    ∷ (alert_with (replicate 256 (codes "team", team)), None)
    ∷ (alert_with (replicate 257 (codes "team", team)), at kinds.Limit (codes "/0/labels"))
    ∷ []
