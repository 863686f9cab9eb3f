-- Which parts differ between an old and a new file.
use Rattle.std.specs.Prelude.{ℕ, List, ◌++◌, map, Bool, not, ◌&&◌, if◌then◌else◌, IsTrue}
use Rattle.std.specs.List.{filter, list_any, list_all}
use Rattle.serde_json.specs.Data.{Data}
use Rattle.am_universe.specs.Text.{same_text}
use Rattle.am_report_texts.specs.EachOnce.{each_once}
use Rattle.am_differences.specs.SameValue.{same_value}
use Rattle.am_differences.specs.Parts.{Part}
use Rattle.am_differences.specs.declared.differences.Presence.{Presence}
use Rattle.am_differences.specs.declared.differences.Presence.TheVariants as presence_is

-- The values of the parts that have a name. Some values are the same as others if each is the same
-- as one of these, and the other way round: neither their order counts, nor how often one stands
-- there.
abbrev pub values_of : List ℕ → List Part → List Data
values_of name ps = map (λ p. p.1) (filter (λ p. same_text p.0 name) ps)

abbrev pub has_value : List Data → Data → Bool
has_value ds d = list_any (same_value d) ds

abbrev pub has_values : List Data → List Data → Bool
has_values ds es = list_all (has_value ds) es

abbrev pub same_values : List Data → List Data → Bool
same_values ds es = has_values es ds && has_values ds es

-- Two files have the same parts: whatever the name, the parts that have it are the same.
abbrev pub HaveSameParts : List Part → List Part → Type 0
HaveSameParts old new =
    (name : List ℕ) → IsTrue (same_values (values_of name old) (values_of name new))

-- A name of which the parts differ, and in which of the files it stands.
abbrev pub Difference : Type 0
Difference = List ℕ × Presence

abbrev pub has_name : List Part → List ℕ → Bool
has_name ps name = list_any (λ p. same_text p.0 name) ps

abbrev pub presence_of : List Part → List Part → List ℕ → Presence
presence_of old new name =
    if not (has_name new name) then presence_is.OnlyInOld
    else (if not (has_name old name) then presence_is.OnlyInNew else presence_is.InBoth)

-- What differs: each name of which the parts of the two files are not the same, once. Names of the
-- old file come first, in its order, and then those of the new file alone.
-- Source: own choice.
-- Example: let the old file have the receivers `a`, `b` and `c`, and the new one `b`, another `c`
-- and `d`. Then `a` is only in the old file, `c` is in both, and `d` is only in the new one.
abbrev pub differ : List Part → List Part → List ℕ → Bool
differ old new name = not (same_values (values_of name old) (values_of name new))

abbrev pub differences : List Part → List Part → List Difference
differences old new =
    map (λ name. (name, presence_of old new name))
    (filter (differ old new) (each_once (map (λ p. p.0) (old ++ new))))
