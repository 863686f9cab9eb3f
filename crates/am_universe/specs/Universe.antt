-- Universes: labels, each with the values that it may have. And why a label cannot be added to a
-- universe.
use Rattle.std.specs.Prelude.{◌≡◌, ◌≢◌, ℕ, ◌<◌, ◌≤◌, List, [], ◌∷◌, ◌++◌, length, map}
use Rattle.std.specs.Prelude.{Bool, true, false, not, nat_le, nat_lt, ◌==◌, ◌&&◌, ◌||◌}
use Rattle.std.specs.Prelude.{if◌then◌else◌, Option, Some, None, option_map, unwrap_or}
use Rattle.std.specs.Prelude.{slice_get, IsTrue}
use Rattle.std.specs.List.{list_all, list_any, position, AllByRecursion, IsDistinct}
use Rattle.std.specs.Option.{option_or}
use Rattle.std.specs.Char.{is_ascii_alphabetic, is_ascii_digit}
use Rattle.am_universe.specs.declared.limits.TheConstants.{MAX_LABELS, MAX_VALUES}
use Rattle.am_universe.specs.declared.kind.Kind.{Kind}
use Rattle.am_universe.specs.declared.kind.Kind.TheVariants as kinds
use Rattle.am_universe.specs.declared.label_fault.LabelFault.{LabelFault}
use Rattle.am_universe.specs.declared.label_fault.LabelPart.{LabelPart}
use Rattle.am_universe.specs.declared.label_fault.LabelPart.TheVariants as parts
use Rattle.am_universe.specs.Bytes.{underscore}
use Rattle.am_universe.specs.Text.{same_text}

-- The values of a label, in declared order. Each is a text or absence. Absence is `None`: the label
-- set then does not have the label.
abbrev pub Values : Type 0
Values = List (Option (List ℕ))

-- A label: its name, and its values in declared order.
pub record Label : Type 0 where
  pub name : List ℕ
  pub values : Values

-- A byte that a label name may begin with, `[a-zA-Z_]`; and one that may follow, `[a-zA-Z0-9_]`.
abbrev pub begins_label_name : ℕ → Bool
begins_label_name c = is_ascii_alphabetic c || c == underscore

abbrev pub continues_label_name : ℕ → Bool
continues_label_name c = begins_label_name c || is_ascii_digit c

-- A text is a label name: `[a-zA-Z_][a-zA-Z0-9_]*`.
-- Source: Prometheus data model, "Metric names and labels".
-- Example: `_job2` is one. `2job` and `job-name` are not.
abbrev pub is_label_name : List ℕ → Bool
is_label_name [] = false
is_label_name (c ∷ cs) = begins_label_name c && list_all continues_label_name cs

-- Two values are the same, absence included.
abbrev pub same_value : Option (List ℕ) → Option (List ℕ) → Bool
same_value None None = true
same_value None (Some t) = false
same_value (Some s) None = false
same_value (Some s) (Some t) = same_text s t

-- A value is the empty text.
abbrev pub is_empty_text : Option (List ℕ) → Bool
is_empty_text None = false
is_empty_text (Some []) = true
is_empty_text (Some (c ∷ cs)) = false

-- The names of the labels, in declared order.
abbrev pub names : List Label → List (List ℕ)
names u = map (λ l. l.name) u

-- How many values each label has, in declared order.
abbrev pub sizes : List Label → List ℕ
sizes u = map (λ l. length l.values) u

-- The position of the label of a name.
abbrev pub label_position : List Label → List ℕ → Option ℕ
label_position u name = position (λ l. same_text l.name name) u

-- The values of the label at a position.
abbrev pub values_at : List Label → ℕ → Values
values_at u i = unwrap_or (option_map (λ l. l.values) (slice_get u i)) []

-- A label by itself: its name is not empty, and it has 1 to `MAX_VALUES` values. No value is the
-- empty text, and no two are the same.
pub record IsLabel (l : Label) : Type 0 where
  pub name : l.name ≢ []
  pub some_value : 0 < length l.values
  pub at_most : length l.values ≤ MAX_VALUES
  pub texts : AllByRecursion (λ v. is_empty_text v ≡ false) l.values
  pub distinct : IsDistinct same_value l.values

-- Some labels are a universe: there are at most `MAX_LABELS`, each is a label by itself, and no two
-- have the same name.
-- Source: own choice.
-- Example: `team`, which may be `db` or `web`, and `severity`, which may be absent or `warning`.
pub record IsUniverse (u : List Label) : Type 0 where
  pub at_most : length u ≤ MAX_LABELS
  pub labels : AllByRecursion IsLabel u
  pub distinct : IsDistinct same_text (names u)

-- Each label has a label name. So it is in a universe that is read from a file, and then each line
-- of the universe is that of one choice.
-- Source: own choice; each version of Prometheus accepts such names.
-- Example: `team` has one. `job.name` has none, and only a universe in memory can declare it.
abbrev pub HaveLabelNames : List Label → Type 0
HaveLabelNames u = AllByRecursion (λ l. IsTrue (is_label_name l.name)) u

-- ---- What keeps a label out, the first fault first.

-- The fault at a part of a label, of the kind that was found, if one was found.
abbrev pub fault_at : LabelPart → Option Kind → Option LabelFault
fault_at part found = option_map (λ kind. record { kind = kind; part = part }) found

-- Why a name of any form cannot be added to the names of a universe: `Empty` for the empty text,
-- and `Duplicate` for a name that the universe already has.
abbrev pub any_name_fault : List Label → List ℕ → Option Kind
any_name_fault u [] = Some kinds.Empty
any_name_fault u (c ∷ cs) =
    if list_any (λ l. same_text l.name (c ∷ cs)) u then Some kinds.Duplicate else None

-- Why a name cannot be added to the names of a universe as a label name: `Empty` for the empty
-- text, `Shape` for any other text that is not a label name, and `Duplicate` for a name that the
-- universe already has.
abbrev pub name_fault : List Label → List ℕ → Option Kind
name_fault u [] = Some kinds.Empty
name_fault u (c ∷ cs) =
    if not (is_label_name (c ∷ cs)) then Some kinds.Shape else any_name_fault u (c ∷ cs)

-- Why a label may not have this number of values: `Empty` for none, and `Limit` for more than
-- `MAX_VALUES`.
abbrev pub count_fault : ℕ → Option Kind
count_fault count =
    if count == 0 then Some kinds.Empty
    else if nat_lt MAX_VALUES count then Some kinds.Limit
    else None

-- Why a value cannot be added to others: `Empty` for the empty text, and `Duplicate` for a value
-- that is already there.
abbrev pub value_fault : Values → Option (List ℕ) → Option Kind
value_fault before value =
    if is_empty_text value then Some kinds.Empty
    else if list_any (λ other. same_value other value) before then Some kinds.Duplicate
    else None

-- The first fault of the values that follow those that are already there.
abbrev pub values_fault : Values → Values → Option LabelFault
values_fault before [] = None
values_fault before (value ∷ values) =
    option_or
    (fault_at (parts.Value (length before)) (value_fault before value))
    (values_fault (before ++ value ∷ []) values)

-- The first fault of the values of a label: of their count, and then of each value, in order.
abbrev pub label_values_fault : Values → Option LabelFault
label_values_fault values =
    option_or (fault_at parts.Values (count_fault (length values))) (values_fault [] values)

-- Why a label cannot be added to a universe, where the fault of its name is known. This is the
-- first fault of: `Limit` if there are `MAX_LABELS` labels already; the fault of its name; the
-- first fault of its values.
abbrev pub named_label_fault : Option Kind → List Label → Values → Option LabelFault
named_label_fault of_name u values =
    if nat_le MAX_LABELS (length u) then Some (record { kind = kinds.Limit; part = parts.Label })
    else option_or (fault_at parts.Name of_name) (label_values_fault values)

-- The same for a label whose name has to be a label name, and for one whose name may have any form.
-- Source: own choice.
-- Example: after a label `team`, a second label `team` without values is refused as `Duplicate`, at
-- its name. A label `job.name` without values is refused as `Shape`, at its name, or as `Empty`, at
-- its values.
abbrev pub label_fault : List Label → Label → Option LabelFault
label_fault u label = named_label_fault (name_fault u label.name) u label.values

abbrev pub any_label_fault : List Label → Label → Option LabelFault
any_label_fault u label = named_label_fault (any_name_fault u label.name) u label.values

-- The fault if memory ran out for a label.
abbrev pub memory_fault : LabelFault
memory_fault = record { kind = kinds.Memory; part = parts.Label }
