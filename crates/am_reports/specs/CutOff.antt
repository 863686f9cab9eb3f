-- Why there is no report although all input is accepted and a universe can be made: a search was
-- cut off. (This project's own.)
use Rattle.std.specs.Prelude.{◌≡◌, ℕ, List, IsTrue}
use Rattle.am_universe.specs.declared.kind.Kind.TheVariants as kinds
use Rattle.am_universe.specs.declared.place.Place.{Place}
use Rattle.am_universe.specs.declared.place.Place.TheVariants as places
use Rattle.am_json.specs.Pointer.{Refusal}
use Rattle.am_complete.specs.declared.origin.Origin.TheVariants as origin_is
use Rattle.am_asked.specs.OriginPointer.{origin_pointer}
use Rattle.am_first_sets.specs.Looks.{is_limit}
use Rattle.am_outcomes.specs.Configurations.{Configurations, One, Pair, Silenced, Ends, Matched}

-- The search for what is said of the route at a path of this file, or of all routes below it, was
-- cut off after as many looks as a limit allows. The refusal is `limit`, with the pointer to the
-- route.
-- Source: own choice.
-- Example: for the first child of the top-level route it is `config: /route/routes/0: limit`.
pub record IsCutOff (file : Place) (path : List ℕ) (place : Place) (r : Refusal) : Type 0 where
  pub looks : ℕ
  pub all : IsTrue (is_limit looks)
  pub place_is : place ≡ file
  pub refusal : r ≡ record { kind = kinds.Limit; pointer = origin_pointer (origin_is.Route path) }

-- The file whose routes are named if a search through all routes is cut off: of an old and a new
-- configuration, the new one.
abbrev pub routes_file : Configurations → Place
routes_file (One c) = places.Config
routes_file (Pair old new) = places.New
routes_file (Silenced c silences) = places.Config
routes_file (Ends c) = places.Config
routes_file (Matched ms) = places.Config
