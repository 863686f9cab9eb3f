-- A worked example of routing: a configuration of six receivers and five routes, and the label sets
-- that it is asked about.
use Rattle.std.specs.Prelude.{◌≡◌, ℕ, List, [], ◌∷◌, Bool, true, false, codes}
use Rattle.am_universe.specs.LabelSet.{LabelMap, value_of}
use Rattle.am_labels.specs.Matcher.{Matcher}
use Rattle.am_labels.specs.declared.op.Op.TheVariants.{Equal}
use Rattle.am_config.specs.ConfigFile.{Configuration, RouteTree, config_with, route, routes_of}
use Rattle.am_config.specs.ConfigFile.{settings_with}

-- A route with this receiver, these matchers, with or without `continue`, and with these children.
abbrev pub node : ℕ → List Matcher → Bool → List RouteTree → RouteTree
node receiver matchers continues children =
    route (settings_with receiver matchers continues) (routes_of children)

-- The matchers `team="db"` and `severity="critical"`.
abbrev pub team_db : Matcher
team_db = record { name = codes "team"; op = Equal; value = codes "db" }

abbrev pub severity_critical : Matcher
severity_critical = record { name = codes "severity"; op = Equal; value = codes "critical" }

-- In the configuration, the top-level route has the receiver `default`. Below it, `/0` asks for the
-- team `db` and has `continue`, and its child asks for the severity `critical`. `/1` asks for that
-- severity too, and `/2` asks for both. Each route has a receiver of its own.
abbrev pub worked : Configuration
worked =
    config_with
    (codes "default" ∷ codes "dba" ∷ codes "pager" ∷ codes "ops" ∷ codes "late" ∷ codes "idle" ∷ [])
    (node 0 [] false
    (node 1 (team_db ∷ []) true (node 2 (severity_critical ∷ []) false [] ∷ [])
    ∷ node 3 (severity_critical ∷ []) false []
    ∷ node 4 (team_db ∷ severity_critical ∷ []) false [] ∷ []))
    []

-- A label set has these values of `team` and `severity`. An empty text is a missing label.
abbrev pub Has : LabelMap → List ℕ → List ℕ → Type 0
Has s team severity =
    (value_of s (codes "team") ≡ team) × (value_of s (codes "severity") ≡ severity)
