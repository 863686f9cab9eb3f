-- The labels that the configurations of a call ask about. (This project's own.)
use Rattle.std.specs.Prelude.{ℕ, List, [], ◌∷◌, ◌++◌, Bool, if◌then◌else◌}
use Rattle.std.specs.List.{list_any, flat_map}
use Rattle.am_universe.specs.declared.place.Place.{Place}
use Rattle.am_universe.specs.declared.place.Place.TheVariants as places
use Rattle.am_universe.specs.Text.{same_text}
use Rattle.am_labels.specs.Matcher.{Matcher}
use Rattle.am_labels.specs.Space.{Space}
use Rattle.am_config.specs.ConfigFile.{Configuration}
use Rattle.am_outcomes.specs.Configurations.{Configurations, One, Pair, Silenced, Ends}
use Rattle.am_outcomes.specs.Configurations.{Matched}
use Rattle.am_complete.specs.declared.origin.Origin.{Origin}
use Rattle.am_complete.specs.declared.origin.Origin.TheVariants as origin_is
use Rattle.am_complete.specs.AskedLabel.{AskedLabel, asked_labels}
use Rattle.am_complete.specs.Complete.{impossible_matchers}
use Rattle.am_asked.specs.Placed.{placed_at, placed_in_routes, placed_in_lists}
use Rattle.am_asked.specs.OriginPointer.{origin_place}
use Rattle.am_rule_outcomes.specs.StandsForOutcomes.{outcome_matchers}

-- The matchers that decide to which receivers a label set goes under each configuration, and
-- whether it is possible: those of the routes, and those of the impossible lists.
-- Source: own choice.
-- Example: if the routes of an old configuration ask for `team="db"`, those of a new one ask for
-- `team="web"`, and nothing is impossible, they are these two matchers.
abbrev pub routing_matchers : Space → Configurations → List Matcher
routing_matchers s k = outcome_matchers k ++ impossible_matchers s.impossible

-- The matchers of the active silences, each with the silence that has it.
abbrev pub placed_in_active : List (ℕ × List Matcher) → List (Origin × Matcher)
placed_in_active silences =
    flat_map (λ silence. placed_at (origin_is.Silence silence.0) silence.1) silences

-- The labels that the routes, the active silences and the impossible lists ask about, each with
-- what first asks about it. As to that, the one list counts as an impossible one.
abbrev pub labels_of_routes : Configurations → List (List Matcher) → List AskedLabel
labels_of_routes (One c) impossible =
    asked_labels (placed_in_routes c ++ placed_in_lists impossible)
labels_of_routes (Pair old new) impossible =
    asked_labels
    (placed_in_routes old ++ (placed_in_routes new ++ placed_in_lists impossible))
labels_of_routes (Silenced c silences) impossible =
    asked_labels
    (placed_in_routes c ++ (placed_in_active silences ++ placed_in_lists impossible))
labels_of_routes (Ends c) impossible =
    asked_labels (placed_in_routes c ++ placed_in_lists impossible)
labels_of_routes (Matched ms) impossible =
    asked_labels (placed_in_lists (ms ∷ []) ++ placed_in_lists impossible)

-- Whether the routes of a configuration ask about a label of this name.
abbrev pub asks_of : Configuration → List ℕ → Bool
asks_of c name = list_any (λ l. same_text l.name name) (labels_of_routes (One c) [])

-- The file that has the first matcher on a label of this name, if that is a matcher of a route or
-- of an impossible list. If it is one of a route, and there are two configurations, the file is the
-- old one if the routes of the old configuration ask about the label, and else the new one.
-- Source: own choice.
-- Example: if both configurations have `team=~"\bdb"`, the place is `old`.
abbrev pub first_place : Configurations → List ℕ → Origin → Place
first_place (One c) name origin = origin_place origin
first_place (Pair old new) name (origin_is.Route path) =
    if asks_of old name then places.Old else places.New
first_place (Pair old new) name origin = origin_place origin
first_place (Silenced c silences) name origin = origin_place origin
first_place (Ends c) name origin = origin_place origin
first_place (Matched ms) name origin = origin_place origin
