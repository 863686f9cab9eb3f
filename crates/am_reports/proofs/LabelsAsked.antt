-- The labels that are asked about are those of the matchers that tell the outcomes.
use Rattle.std.proofs.Common.{ℕ, List, [], ◌∷◌, ◌++◌, refl, append_assoc}
use Rattle.std.specs.List.{flat_map}
use Rattle.std.proofs.lemmas.List.{append-nil}
use Rattle.am_labels.specs.Matcher.{Matcher}
use Rattle.am_complete.specs.declared.origin.Origin.TheVariants as origin_is
use Rattle.am_complete.specs.AskedLabel.{IsAskedOf}
use Rattle.am_complete.specs.Complete.{impossible_matchers}
use Rattle.am_asked.specs.Asked.{route_matchers}
use Rattle.am_asked.proofs.AskedLemmas.{asked_of}
use Rattle.am_asked.proofs.PlacedMatchers.{Places, both_placed, at_one_place}
use Rattle.am_asked.proofs.PlacedMatchers.{of_impossible, of_routes}
use Rattle.am_outcomes.specs.Configurations.{Configurations, One, Pair, Silenced, Ends, Matched}
use Rattle.am_rule_outcomes.specs.StandsForOutcomes.{outcome_matchers}
use Rattle.am_reports.specs.RoutingLabels.{labels_of_routes, placed_in_active}

-- the placed matchers of active silences, without their origins
of_active : (silences : List (ℕ × List Matcher))
    → Places (placed_in_active silences) (flat_map (λ silence. silence.1) silences)
of_active [] = record { same = refl }
of_active (silence ∷ silences) =
    both_placed (at_one_place (origin_is.Silence silence.0) silence.1) (of_active silences)

pub labels_asked_of : (k : Configurations) (lists : List (List Matcher))
    → IsAskedOf (labels_of_routes k lists) (outcome_matchers k ++ impossible_matchers lists)
labels_asked_of (One c) lists = asked_of (both_placed (of_routes [] c.root) (of_impossible lists))
labels_asked_of (Pair old new) lists =
    rw (append_assoc (route_matchers old.root) (route_matchers new.root)
    (impossible_matchers lists))
    (asked_of (both_placed (of_routes [] old.root)
    (both_placed (of_routes [] new.root) (of_impossible lists))))
labels_asked_of (Silenced c silences) lists =
    rw (append_assoc (route_matchers c.root) (flat_map (λ silence. silence.1) silences)
    (impossible_matchers lists))
    (asked_of (both_placed (of_routes [] c.root)
    (both_placed (of_active silences) (of_impossible lists))))
labels_asked_of (Ends c) lists = asked_of (both_placed (of_routes [] c.root) (of_impossible lists))
labels_asked_of (Matched ms) lists =
    rw (append-nil ms) at (asked_of (both_placed (of_impossible (ms ∷ [])) (of_impossible lists)))
