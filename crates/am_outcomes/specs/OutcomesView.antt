-- How outcomes, and what is tried, are kept in memory.
use Rattle.std.specs.Prelude.{ℕ, List, map}
use Rattle.std.specs.Borrow.{Bor}
use Rattle.std.specs.Global.{Vec}
use Rattle.am_config.specs.ConfigFile.{Configuration, RouteTree}
use Rattle.am_config.specs.ConfigView.{config_view}
use Rattle.am_config.specs.RouteView.{route_view}
use Rattle.am_config.specs.declared.config.Config.{Config}
use Rattle.am_config.specs.declared.route.Route.{Route}
use Rattle.am_report_texts.specs.ReceiverNames.{receiver_names}
use Rattle.am_outcomes.specs.Configurations.{Tried, matchers_of_each, silences_view}
use Rattle.am_outcomes.specs.declared.configs.ActiveSilence.{ActiveSilence}
use Rattle.am_outcomes.specs.declared.changes.FoundReceiver.{FoundReceiver}
use Rattle.am_outcomes.specs.declared.changes.Side.{Side}
use Rattle.am_outcomes.specs.OutcomeLines.{list_at}

-- Some configurations, and what is tried of them and of some silences.
abbrev pub configs_view : List (Bor Config) → List Configuration
configs_view configs = map (λ c. config_view c.now) configs

abbrev pub tried_view : List (Bor Config) → List ActiveSilence → Tried
tried_view configs silences = record {
  configurations = configs_view configs;
  lists = matchers_of_each (silences_view silences);
}

-- The lists of an outcome.
abbrev pub lists_view : List (Vec ℕ) → List (List ℕ)
lists_view lists = map (λ list. list.items) lists

-- An outcome, and a choice.
abbrev pub entry_view : Vec (Vec ℕ) × List ℕ → List (List ℕ) × List ℕ
entry_view entry = (lists_view entry.0.items, entry.1)

-- Labels, each with its text; and receivers that lose or gain alerts, each with the labels of one
-- of these alerts.
abbrev pub labels_view : List (Bor (List ℕ) × Bor (List ℕ)) → List (List ℕ × List ℕ)
labels_view labels = map (λ l. (l.0.now, l.1.now)) labels

abbrev pub found_view : FoundReceiver → List ℕ × List (List ℕ × List ℕ)
found_view found = (found.name.now, found.change.now.labels)

abbrev pub founds_view : List FoundReceiver → List (List ℕ × List (List ℕ × List ℕ))
founds_view found = map found_view found

-- The names of the receivers of an outcome on one side.
abbrev pub names_on : Side → List (List ℕ) → List (List ℕ)
names_on side lists = receiver_names (config_view side.config.now) (list_at side.list lists)

-- Routes, and pairs of routes.
abbrev pub routes_view : List (Bor Route) → List RouteTree
routes_view routes = map (λ r. route_view r.now) routes

abbrev pub pairs_view : List (Bor Route × Bor Route) → List (RouteTree × RouteTree)
pairs_view pairs = map (λ p. (route_view p.0.now, route_view p.1.now)) pairs
