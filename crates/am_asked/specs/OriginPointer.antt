-- Where the first matcher on a label stands: in which file, and the pointer to it.
use Rattle.std.specs.Prelude.{ℕ, List, [], ◌∷◌, ◌++◌, codes, decimal}
use Rattle.std.specs.List.{flat_map}
use Rattle.am_universe.specs.declared.place.Place.{Place}
use Rattle.am_universe.specs.declared.place.Place.TheVariants as places
use Rattle.am_complete.specs.declared.origin.Origin.{Origin}
use Rattle.am_complete.specs.declared.origin.Origin.TheVariants as origin_is

-- The pointer to what a matcher stands in: a route, a rule, a silence, or an impossible list, in
-- its file; or a question, among those of the call.
-- Source: RFC 6901, over the forms of the files.
-- Example: for the second child of the first child of the top-level route it is
-- `/route/routes/0/routes/1`, and for the third rule it is `/inhibit_rules/2`.
abbrev pub child_pointer : ℕ → List ℕ
child_pointer position = codes "/routes/" ++ decimal position

abbrev pub origin_pointer : Origin → List ℕ
origin_pointer (origin_is.Route path) = codes "/route" ++ flat_map child_pointer path
origin_pointer (origin_is.Rule position) = codes "/inhibit_rules/" ++ decimal position
origin_pointer (origin_is.Silence position) = codes "/" ++ decimal position
origin_pointer (origin_is.Question position) = codes "/" ++ decimal position
origin_pointer (origin_is.Impossible position) = codes "/impossible/" ++ decimal position

-- The file in which a matcher stands, or `Question` if it stands in a question.
abbrev pub origin_place : Origin → Place
origin_place (origin_is.Route path) = places.Config
origin_place (origin_is.Rule position) = places.Config
origin_place (origin_is.Silence position) = places.Silences
origin_place (origin_is.Question position) = places.Question
origin_place (origin_is.Impossible position) = places.Universe

-- The inputs in which a matcher may stand.
abbrev pub matcher_places : List Place
matcher_places =
    places.Universe ∷ places.Config ∷ places.Old ∷ places.New ∷ places.Silences ∷ places.Question
    ∷ []
