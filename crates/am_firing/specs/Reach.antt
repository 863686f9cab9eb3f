-- What some alerts reach of a configuration, and how it is kept in memory.
use Rattle.std.specs.Prelude.{ℕ, List, map, length, Bool, not, ◌==◌}
use Rattle.std.specs.List.{list_any, range_with_len}
use Rattle.std.specs.Global.{Vec}
use Rattle.indexmap.specs.IndexSet.{IndexSet}
use Rattle.am_universe.specs.LabelSet.{LabelMap}
use Rattle.am_config.specs.ConfigFile.{Rule}
use Rattle.am_config.specs.Path.{leads_through}
use Rattle.am_eval.specs.World.{World}
use Rattle.am_firing.specs.declared.reached as declared
use Rattle.am_firing.specs.Unreached.{is_entered, gets_some, is_matched}

-- What some alerts reach: whether there is an alert, which routes one of them enters, for each
-- receiver whether one goes to it, and for each inhibition rule whether one matches its source
-- side, and whether one matches its target side.
pub record Reached : Type 0 where
  pub is_any : Bool
  pub entered : List ℕ → Bool
  pub receivers : List Bool
  pub sides : List (Bool × Bool)

-- What the firing alerts of a world reach. Each alert of the file counts.
-- Source: own choice.
-- Example: if no alert fires, no route is entered, and no receiver and no side of a rule is
-- reached.
abbrev pub sides_matched : List LabelMap → Rule → Bool × Bool
sides_matched alerts rule = (is_matched alerts rule.source, is_matched alerts rule.target)

abbrev pub reached_by_alerts : World → Reached
reached_by_alerts w = record {
  is_any = not (length w.alerts == 0);
  entered = is_entered w;
  receivers = map (gets_some w) (range_with_len 0 (length w.config.receivers));
  sides = map (sides_matched w.alerts) w.config.rules;
}

-- The paths of a set. And whether one of some paths leads through the route at a path: if an alert
-- ends at each of them, an alert enters that route.
abbrev pub paths_of : {S : Type 0} → IndexSet (Vec ℕ) S → List (List ℕ)
paths_of ends = map (λ end. end.items) ends.keys

abbrev pub leads_to : List (List ℕ) → List ℕ → Bool
leads_to ends path = list_any (leads_through path) ends

-- What is kept, as what alerts reach that end at these paths.
abbrev pub reached_view : declared.Reached.Reached → Reached
reached_view r = record {
  is_any = r.is_any;
  entered = leads_to (paths_of r.ends);
  receivers = r.receivers.items;
  sides = r.sides.items;
}
