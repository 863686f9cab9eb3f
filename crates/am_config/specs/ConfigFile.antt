-- Configurations, and which JSON value says which. (Alertmanager configuration reference 0.25. The
-- limits, and which fields may have any value, are this project's own.)
use Rattle.std.specs.Prelude.{◌≡◌, ◌≢◌, ◌⊎◌, ◌≤◌, ◌+◌, ℕ, max, List, [], ◌∷◌, ◌++◌, length, Bool}
use Rattle.std.specs.Prelude.{true, false, ◌&&◌, nat_lt, IsTrue, Option, Some, None}
use Rattle.std.specs.Prelude.{option_map, option_and_then, unwrap_or, position, codes, ⊤}
use Rattle.std.specs.List.{IsDistinct, AllZip, flat_map}
use Rattle.serde_json.specs.Data.{Data, string, object, Members}
use Rattle.am_universe.specs.Text.{same_text}
use Rattle.am_labels.specs.declared.limits.TheConstants.{MAX_MATCHERS}
use Rattle.am_labels.specs.Matcher.{Matcher}
use Rattle.am_labels.specs.MatcherRefusals.{have_valid_patterns}
use Rattle.am_labels.specs.declared.op.Op.{Op}
use Rattle.am_labels.specs.declared.op.Op.TheVariants.{Equal, Matches}
use Rattle.am_list_files.specs.NamedText.{SaysNamedText}
use Rattle.am_list_files.specs.MatcherTexts.{SaysMatcherText}
use Rattle.am_config.specs.declared.limits.TheConstants.{MAX_RECEIVERS, MAX_ROUTES, MAX_LEVELS}
use Rattle.am_config.specs.declared.limits.TheConstants.{MAX_RULES, MAX_EQUAL_NAMES}
use Rattle.am_json.specs.Json.{FileSays, field, items_of, member_list, SaysBooleanOr, HasOnlyFields}
use Rattle.am_json.specs.OptionalItems.{HasItems, SaysItemsInField}
use Rattle.am_config.specs.RouteOptions.{RouteOptions, no_options, options_below}

-- ---- Configurations.

-- The settings of a route: the position of its receiver, its matchers, whether later siblings are
-- tried after it, and its options. (Reference, "<route>".)
pub record RouteSettings : Type 0 where
  pub receiver : ℕ
  pub matchers : List Matcher
  pub continues : Bool
  pub options : RouteOptions

-- The settings of a route that sets nothing but these.
abbrev pub settings_with : ℕ → List Matcher → Bool → RouteSettings
settings_with receiver matchers continues = record {
  receiver = receiver;
  matchers = matchers;
  continues = continues;
  options = no_options;
}

-- A tree of routes.
mutual
  -- a route: its settings, and its children
  pub data RouteTree : Type 0 where
    route : RouteSettings → Routes → RouteTree

  -- the children of a route, in order
  pub data Routes : Type 0 where
    no_routes : Routes
    next_route : RouteTree → Routes → Routes

-- An inhibition rule. Its source side has the matchers of the alerts that inhibit, and its target
-- side has those of the alerts that are inhibited. `equal` has the names of the labels that must
-- have the same value in both alerts. (Reference, "<inhibit_rule>".)
pub record Rule : Type 0 where
  pub source : List Matcher
  pub target : List Matcher
  pub equal : List (List ℕ)

-- A configuration: the names of the receivers, the top-level route, and the inhibition rules.
-- (Reference, "File layout and global settings".)
pub record Configuration : Type 0 where
  pub receivers : List (List ℕ)
  pub root : RouteTree
  pub rules : List Rule

-- The position of the receiver with a name, if one is declared.
-- Source: own choice.
-- Example: of the receivers `default` and `db-mail`, `db-mail` has the position 1.
abbrev pub receiver_position : Configuration → List ℕ → Option ℕ
receiver_position c name = position (λ other. same_text other name) c.receivers

-- The configuration with these parts.
abbrev pub config_with : List (List ℕ) → RouteTree → List Rule → Configuration
config_with receivers root rules =
    record { receivers = receivers; root = root; rules = rules }

-- A list of routes as the children of a route.
abbrev pub routes_of : List RouteTree → Routes
routes_of [] = no_routes
routes_of (t ∷ ts) = next_route t (routes_of ts)

-- The parts of a route: its settings, which are its matchers, the position of its receiver, whether
-- later siblings are tried after it, and its options; and its children.
abbrev pub settings_of : RouteTree → RouteSettings
settings_of (route settings children) = settings

abbrev pub matchers_of : RouteTree → List Matcher
matchers_of t = (settings_of t).matchers

abbrev pub receiver_of : RouteTree → ℕ
receiver_of t = (settings_of t).receiver

abbrev pub continues_of : RouteTree → Bool
continues_of t = (settings_of t).continues

abbrev pub options_of : RouteTree → RouteOptions
options_of t = (settings_of t).options

abbrev pub children_of : RouteTree → Routes
children_of (route settings children) = children

-- How many routes there are: the route, and all below it.
abbrev mutual
  pub route_count : RouteTree → ℕ
  route_count (route settings children) = 1 + routes_count children

  pub routes_count : Routes → ℕ
  routes_count no_routes = 0
  routes_count (next_route t ts) = route_count t + routes_count ts

-- How many levels of routes there are. The route itself is in the first.
abbrev mutual
  pub route_levels : RouteTree → ℕ
  route_levels (route settings children) = 1 + routes_levels children

  pub routes_levels : Routes → ℕ
  routes_levels no_routes = 0
  routes_levels (next_route t ts) = max (route_levels t) (routes_levels ts)

-- The position of the receiver is below this number, for the route and for each route below it.
abbrev mutual
  pub has_receivers_below : ℕ → RouteTree → Bool
  has_receivers_below count (route settings children) =
      nat_lt settings.receiver count && have_receivers_below count children

  pub have_receivers_below : ℕ → Routes → Bool
  have_receivers_below count no_routes = true
  have_receivers_below count (next_route t ts) =
      has_receivers_below count t && have_receivers_below count ts

-- What holds of every configuration that is read: the receiver of each route is declared, the
-- top-level route has no matchers, and there are at most `MAX_ROUTES` routes in at most
-- `MAX_LEVELS` levels.
-- Source: Alertmanager configuration reference 0.25, "<route>": the top-level route has no
-- configured matchers. Own choice: the limits.
-- Example: no configuration has 1,025 routes, or a route in level 33. The top-level route is in
-- level 1.
pub record IsConfig (c : Configuration) : Type 0 where
  pub receivers_declared : IsTrue (has_receivers_below (length c.receivers) c.root)
  pub root_unmatched : length (matchers_of c.root) ≡ 0
  pub routes_within_limit : route_count c.root ≤ MAX_ROUTES
  pub levels_within_limit : route_levels c.root ≤ MAX_LEVELS

-- The fields that a route may have. Those for grouping and timing are its options.
abbrev pub route_fields : List (List ℕ)
route_fields =
    codes "receiver" ∷ codes "matchers" ∷ codes "match" ∷ codes "match_re" ∷ codes "continue"
    ∷ codes "routes" ∷ codes "group_by" ∷ codes "group_wait" ∷ codes "group_interval"
    ∷ codes "repeat_interval" ∷ codes "mute_time_intervals" ∷ codes "active_time_intervals" ∷ []

-- The names of the three fields that have matchers: an array of texts, an object of names and texts
-- for `=`, and another for `=~`.
pub record MatcherFields : Type 0 where
  pub texts : List ℕ
  pub equalities : List ℕ
  pub patterns : List ℕ

-- The three fields with the matchers of a route. (Reference, "<route>", where the last two are
-- deprecated.)
abbrev pub route_matcher_fields : MatcherFields
route_matcher_fields =
    record { texts = codes "matchers"; equalities = codes "match"; patterns = codes "match_re" }

-- The fields that an inhibition rule may have. The source side has three fields with matchers, and
-- the target side has three. (Reference, "<inhibit_rule>", where `source_match` and the like are
-- deprecated. Own choice: `name`, which later versions have, is allowed and ignored.)
abbrev pub rule_fields : List (List ℕ)
rule_fields =
    codes "name" ∷ codes "source_matchers" ∷ codes "source_match" ∷ codes "source_match_re"
    ∷ codes "target_matchers" ∷ codes "target_match" ∷ codes "target_match_re" ∷ codes "equal" ∷ []

abbrev pub source_matcher_fields : MatcherFields
source_matcher_fields = record {
  texts = codes "source_matchers";
  equalities = codes "source_match";
  patterns = codes "source_match_re";
}

abbrev pub target_matcher_fields : MatcherFields
target_matcher_fields = record {
  texts = codes "target_matchers";
  equalities = codes "target_match";
  patterns = codes "target_match_re";
}

-- ---- Which value says which configuration.

-- An object says the name of a receiver: its `name`, a text that is not empty. (Reference,
-- "<receiver>".)
abbrev pub SaysName : Data → List ℕ → Type 0
SaysName d name =
    (members : Members) × (d ≡ object members) × (field (codes "name") d ≡ Some (string name))
    × (name ≢ [])

-- The receiver of a route, by its position among the declared names. It is the one that `receiver`
-- names. If that field is absent or the empty text, it is the receiver of the parent route.
-- Source: Alertmanager configuration reference 0.25, "<route>": parameters are inherited from the
-- parent if not set. Own choice: the empty text counts as not set.
-- Example: below a route with the receiver `a`, `{}` and `{"receiver": ""}` have the receiver `a`.
-- `{"receiver": "b"}` has `b` if that is declared, and else none.
pub record NamesReceiver (names : List (List ℕ)) (d : Data) (receiver : ℕ) : Type 0 where
  pub name : List ℕ
  pub named : field (codes "receiver") d ≡ Some (string name)
  pub some : name ≢ []
  pub declared : position (λ other. same_text other name) names ≡ Some receiver

pub record InheritsReceiver (parent : Option ℕ) (d : Data) (receiver : ℕ) : Type 0 where
  pub unnamed : (field (codes "receiver") d ≡ None)
      ⊎ (field (codes "receiver") d ≡ Some (string []))
  pub inherited : parent ≡ Some receiver

abbrev pub SaysReceiver : List (List ℕ) → Option ℕ → Data → ℕ → Type 0
SaysReceiver names parent d receiver =
    NamesReceiver names d receiver ⊎ InheritsReceiver parent d receiver

-- A member of an object says a matcher with this operator.
abbrev pub SaysMatcherPair : Op → List ℕ × Data → Matcher → Type 0
SaysMatcherPair op pair m = SaysNamedText pair m.name m.value × (m.op ≡ op)

-- A field has an object whose members say matchers with this operator. If the field is absent,
-- there are none.
abbrev pub SaysPairs : Op → List ℕ → Data → List Matcher → Type 0
SaysPairs op key d matchers =
    ((field key d ≡ None) × (matchers ≡ []))
    ⊎ ((members : Members) × (field key d ≡ Some (object members))
    × AllZip (SaysMatcherPair op) (member_list members) matchers)

-- The matchers of three fields, in this order: those that the texts spell, the pairs for `=`, and
-- the pairs for `=~`, whose texts are patterns. There are at most `MAX_MATCHERS`, and each pattern
-- is valid.
-- Source: Alertmanager configuration reference 0.25, "<route>": `matchers`, `match` and `match_re`,
-- and "<inhibit_rule>", where they are called `source_matchers`, `target_matchers` and so on. Own
-- choice: their order, their number, and which patterns are valid.
-- Example: `{"match_re": {"e": "f|g"}, "match": {"c": "d"}, "matchers": ["a!=b"]}` has the matchers
-- `a!="b"`, `c="d"` and `e=~"f|g"`, in this order.
pub record SaysMatchers (fields : MatcherFields) (d : Data) (matchers : List Matcher)
    : Type 0 where
  pub items : List Data
  pub is_array : HasItems fields.texts d items
  pub lists : List (List Matcher)
  pub texts : AllZip SaysMatcherText items lists
  pub from_match : List Matcher
  pub match : SaysPairs Equal fields.equalities d from_match
  pub from_match_re : List Matcher
  pub match_re : SaysPairs Matches fields.patterns d from_match_re
  pub all : matchers ≡ flat_map (λ ms. ms) lists ++ (from_match ++ from_match_re)
  pub few : length matchers ≤ MAX_MATCHERS
  pub valid_patterns : IsTrue (have_valid_patterns matchers)

-- Whether later siblings of a route are tried after it: what `continue` says, and `false` if it is
-- absent.
-- Source: Alertmanager configuration reference 0.25, "<route>": `continue`, whose default is false.
-- Example: `{"continue": true}` says `true`, `{}` says `false`, and `{"continue": "true"}` says
-- neither.
abbrev pub SaysContinue : Data → Bool → Type 0
SaysContinue d continues = SaysBooleanOr false (codes "continue") d continues

-- The settings of the parent of a route, if it has one; and what it inherits from them: a receiver,
-- and options. The top-level route has no parent. It inherits no receiver, and no option that is
-- set.
abbrev pub Parent : Type 0
Parent = Option RouteSettings

abbrev pub receiver_above : Parent → Option ℕ
receiver_above parent = option_map (λ settings. settings.receiver) parent

abbrev pub options_above : Parent → RouteOptions
options_above parent = unwrap_or (option_map (λ settings. settings.options) parent) no_options

-- A JSON value says the settings of a route: it is an object that has only fields of a route, and
-- these say the receiver, the matchers, whether later siblings are tried, and the options.
-- Source: Alertmanager configuration reference 0.25, "<route>". Own choice: the fields for grouping
-- and timing may have any value, and other fields are refused.
-- Example: let the receivers be `a` and `b`, and `a` the one of the parent. Then
-- `{"receiver": "b", "continue": true, "group_by": ["c"]}` says the receiver `b`, no matchers, that
-- later siblings are tried, and this `group_by`. `{"group": ["c"]}` says nothing.
pub record SaysSettings (names : List (List ℕ)) (parent : Parent) (d : Data)
    (settings : RouteSettings) : Type 0 where
  pub only : HasOnlyFields route_fields d
  pub receiver_is : SaysReceiver names (receiver_above parent) d settings.receiver
  pub matchers_are : SaysMatchers route_matcher_fields d settings.matchers
  pub continues_is : SaysContinue d settings.continues
  pub options_are : settings.options ≡ options_below (options_above parent) d

-- A JSON value says a route: it says the settings of the route, and the items of its `routes` say
-- the children, which inherit the receiver and most options.
-- Source: Alertmanager configuration reference 0.25, "<route>".
-- Example: let the receivers be `a` and `b`. Then
-- `{"receiver": "a", "routes": [{"receiver": "b"}, {}]}` says a route with the receiver `a` and two
-- children. The first child has the receiver `b`, and the second has `a`.
pub record SaysRouteFields (names : List (List ℕ)) (parent : Parent) (d : Data)
    (settings : RouteSettings) (SaysChildren : List Data → Type 0) : Type 0 where
  pub settings_are : SaysSettings names parent d settings
  pub items : List Data
  pub is_array : HasItems (codes "routes") d items
  pub children : SaysChildren items

abbrev mutual
  pub SaysRoute : List (List ℕ) → Parent → Data → RouteTree → Type 0
  SaysRoute names parent d (route settings children) =
      SaysRouteFields names parent d settings
      (λ items. SaysRoutes names settings items children)

  pub SaysRoutes : List (List ℕ) → RouteSettings → List Data → Routes → Type 0
  SaysRoutes names parent [] no_routes = ⊤
  SaysRoutes names parent (d ∷ ds) no_routes = ⊥
  SaysRoutes names parent [] (next_route t ts) = ⊥
  SaysRoutes names parent (d ∷ ds) (next_route t ts) =
      SaysRoute names (Some parent) d t × SaysRoutes names parent ds ts

-- An item of `equal` says the name of a label: it is a text that is not empty.
-- Source: Alertmanager configuration reference 0.25, "<inhibit_rule>": `equal`. Own choice: any
-- text but the empty one is a name, and a name may occur twice.
-- Example: `"cluster"` says the name `cluster`. `""` and `1` say none.
abbrev pub SaysEqualName : Data → List ℕ → Type 0
SaysEqualName d name = (d ≡ string name) × (name ≢ [])

-- A JSON value says an inhibition rule: it is an object that has only fields of a rule, and these
-- say the matchers of both sides and the names in `equal`. A side without matchers matches every
-- alert.
-- Source: Alertmanager configuration reference 0.25, "<inhibit_rule>". Own choice: the limits;
-- `name` is ignored, and other fields are refused.
-- Example: `{"source_match": {"a": "b"}, "target_matchers": ["c=d"], "equal": ["e"]}` says a rule
-- with the source matcher `a="b"`, the target matcher `c="d"` and the label `e`. `{}` says a rule
-- without matchers and labels. Both its sides match every alert, so it inhibits none.
pub record SaysRule (d : Data) (rule : Rule) : Type 0 where
  pub only : HasOnlyFields rule_fields d
  pub source : SaysMatchers source_matcher_fields d rule.source
  pub target : SaysMatchers target_matcher_fields d rule.target
  pub equal : SaysItemsInField SaysEqualName (codes "equal") MAX_EQUAL_NAMES d rule.equal

-- A JSON value says a configuration: it is an object with receivers of different names, a top-level
-- route without matchers, and inhibition rules, if it has any. Its other fields may have any value.
-- Source: Alertmanager configuration reference 0.25, "File layout and global settings", "<route>",
-- "<inhibit_rule>" and "<receiver>". Own choice: the limits.
-- Example: `{"receivers": [{"name": "a"}], "route": {"receiver": "a"}}` says one receiver, and one
-- route that has it. With `"matchers": ["x=y"]` in that route, it says no configuration.
pub record SaysConfig (d : Data) (c : Configuration) : Type 0 where
  pub items : List Data
  pub is_array : option_and_then items_of (field (codes "receivers") d) ≡ Some items
  pub names : AllZip SaysName items c.receivers
  pub few : length c.receivers ≤ MAX_RECEIVERS
  pub distinct : IsDistinct same_text c.receivers
  pub root : Data
  pub has_root : field (codes "route") d ≡ Some root
  pub says_root : SaysRoute c.receivers None root c.root
  pub unmatched : matchers_of c.root ≡ []
  pub few_routes : route_count c.root ≤ MAX_ROUTES
  pub few_levels : route_levels c.root ≤ MAX_LEVELS
  pub rules : SaysItemsInField SaysRule (codes "inhibit_rules") MAX_RULES d c.rules

-- The bytes of a file, at most `MAX_FILE_BYTES`, say the configuration that their JSON value says.
abbrev pub FileSaysConfig : List ℕ → Configuration → Type 0
FileSaysConfig bytes c = FileSays SaysConfig bytes c
