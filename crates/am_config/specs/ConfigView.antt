-- The configurations that a `Config` and a `WholeConfig` stand for, and what is read of a route
-- before its children.
use Rattle.std.specs.Prelude.{map, Option, option_map}
use Rattle.std.specs.Borrow.{Bor}
use Rattle.serde_json.specs.View.{view, members_view}
use Rattle.am_config.specs.declared.config.Config.{Config}
use Rattle.am_config.specs.declared.whole_config.WholeConfig.{WholeConfig}
use Rattle.am_config.specs.declared.config_file as declared
use Rattle.am_config.specs.declared.route_matchers as keys
use Rattle.am_config.specs.ConfigFile.{Configuration, MatcherFields, RouteSettings, Parent}
use Rattle.am_config.specs.ConfigForm.{RouteFields}
use Rattle.am_config.specs.WholeConfig.{WholeConfiguration}
use Rattle.am_config.specs.RouteView.{route_view, names_of}

-- The configuration that a `Config` stands for.
abbrev pub config_view : Config → Configuration
config_view c = record {
  receivers = names_of c.receivers.items;
  root = route_view c.root;
  rules = c.rules.items;
}

-- The configuration that a `WholeConfig` stands for, with the fields of its file.
abbrev pub whole_config_view : WholeConfig → WholeConfiguration
whole_config_view w = record { config = config_view w.config; rest = members_view w.rest.entries }

-- The settings of the parent of a route, if it has one.
abbrev pub parent_view : Option (Bor RouteSettings) → Parent
parent_view parent = option_map (λ settings. settings.now) parent

-- What is read of a route before its children, with their JSON values.
abbrev pub fields_view : declared.RouteFields.RouteFields → RouteFields
fields_view f = record { settings = f.settings; items = map view f.items.now }

-- The names of three fields with matchers.
abbrev pub matcher_fields_view : keys.MatcherFields.MatcherFields → MatcherFields
matcher_fields_view f =
    record { texts = f.texts.now; equalities = f.equalities.now; patterns = f.patterns.now }
