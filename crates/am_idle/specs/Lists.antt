-- Universes that stand for every alert, for some lists of matchers, and why none is made. (This
-- project's own.)
use Rattle.std.specs.Prelude.{◌≡◌, ◌⊎◌, List, ◌++◌}
use Rattle.std.specs.List.{flat_map}
use Rattle.am_universe.specs.declared.kind.Kind.{Kind}
use Rattle.am_universe.specs.declared.kind.Kind.TheVariants as kinds
use Rattle.am_universe.specs.Universe.{Label}
use Rattle.am_labels.specs.Matcher.{Matcher}
use Rattle.am_labels.specs.Space.{Space}
use Rattle.am_classes.specs.declared.alphabet.Alphabet.{Alphabet}
use Rattle.am_complete.specs.AskedLabel.{AskedLabel, asked_labels}
use Rattle.am_complete.specs.declared.allowed_names.AllowedNames.TheVariants as allowed_are
use Rattle.am_complete.specs.Room.{HaveNoRoom}
use Rattle.am_asked.specs.Made.{undeclared, IsFirstUnproved}
use Rattle.am_asked.specs.Placed.{placed_in_lists}
use Rattle.am_every_alert.specs.Deciding.{StandsFor, space_of}

-- ---- What is asked.

-- The matchers of some lists.
abbrev pub listed_matchers : List (List Matcher) → List Matcher
listed_matchers lists = flat_map (λ ms. ms) lists

-- The labels that some lists ask about, in the order of the lists, followed by those that the
-- impossible lists ask about. Each list has an origin as if it were impossible; no fault shows it.
-- Source: own choice.
-- Example: for `team="db",env=""` and `team="web"` they are `team`, with two matchers, and `env`.
abbrev pub labels_of_lists : Space → List (List Matcher) → List AskedLabel
labels_of_lists s lists = asked_labels (placed_in_lists lists ++ placed_in_lists s.impossible)

-- ---- What is made.

-- A universe stands for every alert over an alphabet, for some lists and the impossible lists of a
-- space: it is complete for all these lists, and its texts are over the alphabet.
-- Source: own choice.
-- Example: for the list `team="db"`, over each alphabet, if nothing is impossible, a universe does
-- if it has only the label `team`, which may be absent or `db`. It does not if `team` is always
-- `db`.
abbrev pub StandsForLists : Alphabet → Space → List (List Matcher) → List Label → Type 0
StandsForLists a s lists u =
    StandsFor a (space_of s.impossible u) (listed_matchers lists)

-- No universe is made, and the kind says why: there is no room for the labels that are asked about,
-- or there is for all but some that are unproved. No label is unproved for its name.
-- Source: own choice.
-- Example: if a list has 65 matchers with `=`, each for a different label, it is `Limit`. It may be
-- `Unproved` if a list has `team=~"\bdb"`.
abbrev pub IsRefusalForLists : Alphabet → Space → List (List Matcher) → Kind → Type 0
IsRefusalForLists a s lists kind =
    ((kind ≡ kinds.Limit) × HaveNoRoom a allowed_are.Any (undeclared s) (labels_of_lists s lists))
    ⊎ ((kind ≡ kinds.Unproved)
    × ((label : AskedLabel)
    × IsFirstUnproved a allowed_are.Any (undeclared s) (labels_of_lists s lists) label))
