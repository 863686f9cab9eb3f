-- What may be refused after the inputs are read, if outcomes are found. (This project's own.)
use Rattle.std.specs.Prelude.{◌≡◌, ◌⊎◌, List, []}
use Rattle.am_universe.specs.declared.kind.Kind.TheVariants as kinds
use Rattle.am_universe.specs.declared.place.Place.{Place}
use Rattle.am_universe.specs.declared.place.Place.TheVariants as places
use Rattle.am_universe.specs.Universe.{Label}
use Rattle.am_labels.specs.Matcher.{Matcher}
use Rattle.am_labels.specs.Space.{Space}
use Rattle.am_json.specs.Pointer.{Refusal, refusal_here}
use Rattle.am_classes.specs.declared.alphabet.Alphabet.{Alphabet}
use Rattle.am_every_alert.specs.Deciding.{space_of}
use Rattle.am_outcomes.specs.Ways.{HaveManyWays}
use Rattle.am_outcomes.specs.Configurations.{Configurations, tried_of}
use Rattle.am_reports.specs.CutOff.{IsCutOff, routes_file}
use Rattle.am_reports.specs.Made.{StandsForAll, IsDeclaredRefusal, IsMadeRefusal, AreDeclaredWhole}

-- A universe can be made, but with it there are more ways through the routes than there is room
-- for.
-- Source: own choice.
-- Example: there are too many if 21 children of the top-level route have `continue` and ask about
-- 21 labels, each with one matcher `=`, since each of the 21 matchers may hold or not. With 20 of
-- them there are not.
pub record TooManyWaysFor (a : Alphabet) (lists : List (List Matcher)) (k : Configurations)
    (r : Refusal) : Type 0 where
  pub labels : List Label
  pub stands : StandsForAll a lists k labels
  pub many : HaveManyWays (space_of lists labels) (tried_of k)
  pub refusal : r ≡ refusal_here kinds.Limit

-- What is said is refused at this place for a label that the universe file declares; or no such
-- label lacks a value, and no universe can be made, or there are too many ways, or the search for
-- them was cut off.
-- Source: own choice.
-- Example: if the universe file lacks a value of a label, and there is no room for the labels that
-- the routes ask about, the refusal is `incomplete`.
abbrev pub IsOutcomesRefusal : Alphabet → Space → Configurations → Place → Refusal → Type 0
IsOutcomesRefusal a s k place r =
    IsDeclaredRefusal a s k place r
    ⊎ (AreDeclaredWhole a s k s.labels
    × (IsMadeRefusal a s.impossible k place r
    ⊎ (((place ≡ places.Universe) × TooManyWaysFor a s.impossible k r)
    ⊎ IsCutOff (routes_file k) [] place r)))
