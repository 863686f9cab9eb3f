-- Which names the labels of a made universe may have.
use Rattle.std.specs.Prelude.{◌⊎◌, ℕ, List, Bool, Contains, IsTrue}
use Rattle.am_universe.specs.Universe.{Label, is_label_name, names}
use Rattle.am_complete.specs.declared.allowed_names.AllowedNames.{AllowedNames}
use Rattle.am_complete.specs.declared.allowed_names.AllowedNames.TheVariants as allowed_are
use Rattle.am_complete.specs.FoundState.{begins}

-- A made universe may declare a label of a name: the name is a label name, if the universe is for a
-- file, and else it is not empty.
-- Source: own choice; Alertmanager takes a matcher on any name that is not empty.
-- Example: `job.name` may be declared in a universe that stays in memory, and not in one for a
-- file.
abbrev pub may_declare : AllowedNames → List ℕ → Bool
may_declare allowed_are.OfFiles name = is_label_name name
may_declare allowed_are.Any name = begins name

-- A universe that keeps the labels of another may have a label of a name: the other one has it, or
-- the name may be declared.
-- Source: own choice.
-- Example: if `team` is declared, a universe for a file may have `team` and `env`, and not `a:b`.
abbrev pub MayHaveLabel : AllowedNames → List Label → List ℕ → Type 0
MayHaveLabel allowed u name = Contains (names u) name ⊎ IsTrue (may_declare allowed name)
