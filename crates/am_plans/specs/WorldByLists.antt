-- What the lists of a world say of it at a prefix, and when this is what holds in the world, as far
-- as a question asks about it.
use Rattle.std.specs.Prelude.{◌≡◌, ℕ, List, Bool, true, false, ◌&&◌, ◌||◌, Option, Some, None}
use Rattle.std.specs.Prelude.{IsTrue}
use Rattle.std.specs.List.{list_any}
use Rattle.am_universe.specs.Universe.{Label}
use Rattle.am_config.specs.ConfigFile.{RouteTree}
use Rattle.am_config.specs.RoutePaths.{all_routes}
use Rattle.am_eval.specs.declared.property.Property.{Property}
use Rattle.am_eval.specs.declared.property.Property.TheVariants.{Any, Silenced, Inhibited}
use Rattle.am_eval.specs.declared.reach.Reach.{Reach}
use Rattle.am_eval.specs.Tree.{Part, Not, And, Or}
use Rattle.am_eval.specs.Question.{Simple, Is, Receiver, Route, Question}
use Rattle.am_eval.specs.World.{World}
use Rattle.am_judged_lists.specs.Cube.{verdict_at}
use Rattle.am_judged_lists.specs.declared.cube_set.CubeSet.{CubeSet}
use Rattle.am_judged_lists.specs.declared.certainty.Certainty.{Certainty}
use Rattle.am_judged_lists.specs.Certainty.{passes}
use Rattle.am_plans.specs.declared.world_lists.Need.{Need}
use Rattle.am_plans.specs.declared.world_lists.Need.TheVariants as needs
use Rattle.am_plans.specs.declared.world_lists.WorldLists.{WorldLists}
use Rattle.am_plans.specs.PairsByLists.{inhibited_by}
use Rattle.am_plans.specs.RouteGroups.{IsGroup}
use Rattle.am_plans.specs.declared.route_lists.RoutesSeen.{RoutesSeen}
use Rattle.am_plans.specs.RoutesByWays.{reaches_in, seen_in}
use Rattle.am_plans.specs.Verdicts.{verdict_of_simple}

-- Whether a label set reaches one of some routes, is silenced, and is inhibited: for each, whether
-- that is not excluded, and whether it is certain.
pub record WorldSeen : Type 0 where
  pub reaches : Certainty → Reach → CubeSet → Bool
  pub silenced : Certainty → Bool
  pub inhibited : Certainty → Bool

-- The same for each property.
abbrev pub has_seen : WorldSeen → Certainty → Property → Bool
has_seen seen m Any = true
has_seen seen m Silenced = seen.silenced m
has_seen seen m Inhibited = seen.inhibited m

-- The same, by the lists. If the lists are not there, the result is `false`.
abbrev pub if_there : {A : Type 0} → (A → Bool) → Option A → Bool
if_there test None = false
if_there test (Some lists) = test lists

abbrev pub world_seen : List ℕ → WorldLists → WorldSeen
world_seen prefix lists = record {
  reaches = reaches_in prefix lists.routes;
  silenced = λ m. if_there (list_any (λ cube. passes m (verdict_at cube prefix))) lists.silences;
  inhibited = λ m. if_there (λ pairs. inhibited_by prefix pairs m) lists.pairs;
}

-- `asks`: a simple part asks about the routes, the silences, or the pairs. `needs_of`: a question
-- does, if one of its simple parts does.
abbrev pub asks : Need → Simple → Bool
asks needs.Routes (Receiver receiver) = true
asks needs.Routes (Route reach path) = true
asks needs.Silences (Is Silenced) = true
asks needs.Pairs (Is Inhibited) = true
asks need simple = false

abbrev pub needs_of : Need → Question → Bool
needs_of need (Part simple) = asks need simple
needs_of need (Not q) = needs_of need q
needs_of need (And q r) = needs_of need q || needs_of need r
needs_of need (Or q r) = needs_of need q || needs_of need r

-- What was found of the routes at a prefix is what their lists say.
abbrev pub IsSeen : List ℕ → WorldLists → Option RoutesSeen → Type 0
IsSeen prefix lists seen =
    (m : Certainty) (reach : Reach) (routes : CubeSet)
    → seen_in seen m reach routes ≡ reaches_in prefix lists.routes m reach routes

-- At a prefix, what is seen of any routes is what the verdicts of all of them say; and what is seen
-- of a property is what its verdict says.
abbrev pub AreRoutes : List Label → World → List ℕ → (Certainty → Reach → CubeSet → Bool) → Type 0
AreRoutes u w prefix reaches =
    (m : Certainty) (reach : Reach) (routes : CubeSet) (chosen : List ℕ × RouteTree → Bool)
    → IsGroup (all_routes w.config) chosen routes
    → reaches m reach routes ≡ list_any (λ found. chosen found
    && passes m (verdict_of_simple u w (Route reach found.0) prefix)) (all_routes w.config)

abbrev pub IsProperty : List Label → World → List ℕ → Property → (Certainty → Bool) → Type 0
IsProperty u w prefix property has =
    (m : Certainty) → has m ≡ passes m (verdict_of_simple u w (Is property) prefix)

-- `IsServed`: the same, for what one need asks about. `Serves`: the same, for all that a question
-- asks about.
abbrev pub IsServed : List Label → World → List ℕ → WorldSeen → Need → Type 0
IsServed u w prefix seen needs.Routes = AreRoutes u w prefix seen.reaches
IsServed u w prefix seen needs.Silences = IsProperty u w prefix Silenced seen.silenced
IsServed u w prefix seen needs.Pairs = IsProperty u w prefix Inhibited seen.inhibited

abbrev pub Serves : List Label → World → List ℕ → WorldSeen → Question → Type 0
Serves u w prefix seen q =
    (need : Need) → IsTrue (needs_of need q) → IsServed u w prefix seen need
