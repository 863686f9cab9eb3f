-- Universes that stand for the outcomes of all alerts of a space. (This project's own.)
use Rattle.std.specs.Prelude.{◌≡◌, List, ◌++◌}
use Rattle.std.specs.List.{flat_map}
use Rattle.am_universe.specs.Universe.{Label}
use Rattle.am_universe.specs.LabelSet.{LabelMap}
use Rattle.am_labels.specs.Matcher.{Matcher}
use Rattle.am_labels.specs.Space.{Space}
use Rattle.am_asked.specs.Asked.{route_matchers}
use Rattle.am_classes.specs.declared.alphabet.Alphabet.{Alphabet}
use Rattle.am_complete.specs.AskedLabel.{AskedLabel, IsAskedOf}
use Rattle.am_every_alert.specs.EveryAlert.{MeetsTheSame}
use Rattle.am_every_alert.specs.Deciding.{StandsFor, deciding_matchers, space_of}
use Rattle.am_outcomes.specs.Configurations.{Configurations, One, Pair, Silenced, Ends, Matched}
use Rattle.am_outcomes.specs.Outcomes.{outcome_of}

-- The matchers that tell the outcome of an alert: those of the routes of each configuration, those
-- of the active silences, and those of a list that may match alerts. Alerts that meet the same of
-- them have the same outcome.
-- Source: own choice.
-- Example: if the routes ask for `team="db"`, and an active silence for `env="dev"`, they are these
-- two matchers.
abbrev pub outcome_matchers : Configurations → List Matcher
outcome_matchers (One c) = route_matchers c.root
outcome_matchers (Pair old new) = route_matchers old.root ++ route_matchers new.root
outcome_matchers (Silenced c silences) =
    route_matchers c.root ++ flat_map (λ silence. silence.1) silences
outcome_matchers (Ends c) = route_matchers c.root
outcome_matchers (Matched ms) = ms

-- A universe stands for the outcomes of all alerts of a space over an alphabet, under
-- configurations: it stands for every such alert, for some matchers, and alerts that meet the same
-- of these matchers have the same outcome. Some labels are those that these matchers and the
-- impossible lists ask about.
-- Source: own choice.
-- Example: if all routes match by `team="db"` alone, and nothing is impossible, a universe in which
-- `team` may be absent or `db` does so, and `team` is the label that is asked about.
pub record StandsForOutcomes (a : Alphabet) (s : Space) (u : List Label) (asked : List AskedLabel)
    (k : Configurations) : Type 0 where
  pub matchers : List Matcher
  pub stands : StandsFor a (space_of s.impossible u) matchers
  pub labels : IsAskedOf asked (deciding_matchers s matchers)
  pub told : (x y : LabelMap) → MeetsTheSame matchers x y → outcome_of k x ≡ outcome_of k y
