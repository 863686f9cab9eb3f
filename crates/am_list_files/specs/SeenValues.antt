-- The values of a label that were read, kept as a set.
use Rattle.std.specs.Prelude.{◌≡◌, ℕ, List, Option, option_map}
use Rattle.std.specs.Borrow.{Bor}
use Rattle.std.specs.HashSet.{HashSet}
use Rattle.std.specs.List.{list_any}
use Rattle.am_universe.specs.Universe.{Values, same_value}

-- The value of a key of the set.
abbrev pub seen_value : Option (Bor (List ℕ)) → Option (List ℕ)
seen_value key = option_map (λ text. text.now) key

-- A set of keys has the values of a list, and no others.
-- Source: own choice.
-- Example: the set of `db` and absence has those of the list `db`, absence.
abbrev pub AreSeen : {S : Type 0} → HashSet (Option (Bor (List ℕ))) S → Values → Type 0
AreSeen seen values =
    (value : Option (List ℕ)) → list_any (λ key. same_value (seen_value key) value) seen.keys
    ≡ list_any (λ other. same_value other value) values
