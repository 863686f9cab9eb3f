-- The form of a configuration file, and its first fault. (Alertmanager configuration reference
-- 0.25; the order and the limits are this project's own.) The pointers of each form start at the
-- value that it looks at. The form of a value around it puts the pointer to the part in front.
use Rattle.std.specs.Prelude.{◌≡◌, ◌+◌, ◌&&◌, ℕ, zero, suc, List, [], ◌∷◌, ◌++◌, length, Bool}
use Rattle.std.specs.Prelude.{true, false, not}
use Rattle.std.specs.Prelude.{if◌then◌else◌, ◌==◌, is_none, Option, Some, None}
use Rattle.std.specs.Prelude.{position, codes}
use Rattle.std.specs.List.{enumerate_from}
use Rattle.serde_json.specs.Data.{Data}
use Rattle.am_universe.specs.declared.kind.Kind.{Kind}
use Rattle.am_universe.specs.declared.kind.Kind.TheVariants as kinds
use Rattle.am_labels.specs.declared.op.Op.{Op}
use Rattle.am_labels.specs.declared.op.Op.TheVariants.{Equal, Matches}
use Rattle.am_universe.specs.Text.{same_text}
use Rattle.am_labels.specs.declared.limits.TheConstants.{MAX_MATCHERS}
use Rattle.am_labels.specs.Matcher.{Matcher}
use Rattle.am_config.specs.declared.limits.TheConstants.{MAX_RECEIVERS, MAX_ROUTES, MAX_LEVELS}
use Rattle.am_config.specs.declared.limits.TheConstants.{MAX_RULES, MAX_EQUAL_NAMES}
use Rattle.am_json.specs.Json.{field, is_one_of, member_list}
use Rattle.am_json.specs.Objections.{first_fault, IsRefusedFor}
use Rattle.am_json.specs.OptionalItems.{read_optional_array, read_optional_items}
use Rattle.am_json.specs.Pointer.{Refusal, refusal_here, to_field, to_item}
use Rattle.am_json.specs.Reading.{Form, Reading, ◌>>=◌, accept, accept_or, refuse}
use Rattle.am_json.specs.Reading.{reading_within}
use Rattle.am_json.specs.Reading.{refuse_for, check_count, as_object, as_text, as_items}
use Rattle.am_json.specs.Reading.{check_only_fields, required_field, required_text, required_items}
use Rattle.am_json.specs.Reading.{read_boolean_or, read_each, read_items, read_json}
use Rattle.am_config.specs.ConfigFile.{RouteSettings, RouteTree, route, no_routes, Configuration}
use Rattle.am_config.specs.RouteOptions.{options_below}
use Rattle.am_config.specs.ConfigFile.{MatcherFields, settings_with, receiver_above, options_above}
use Rattle.am_config.specs.ConfigFile.{Parent}
use Rattle.am_config.specs.ConfigFile.{route_matcher_fields, routes_of, routes_count, route_fields}
use Rattle.am_config.specs.ConfigFile.{Rule, rule_fields, source_matcher_fields}
use Rattle.am_config.specs.ConfigFile.{target_matcher_fields}
use Rattle.am_list_files.specs.MatcherFaults.{label_name_fault, check_matcher}
use Rattle.am_list_files.specs.MatcherTexts.{matcher_text_form}
use Rattle.am_list_files.specs.NamedText.{named_text_form}

-- ---- The receivers.

-- What is wrong with the name of a receiver that follows these: it is empty, or it is one of them.
-- (Reference, "<receiver>": `name`.)
abbrev pub receiver_name_fault : List (List ℕ) → List ℕ → Option Kind
receiver_name_fault before name =
    if length name == 0 then Some kinds.Empty
    else if is_one_of name before then Some kinds.Duplicate else None

-- The name of a receiver, after the names that were read before it. Its other fields are not read.
unfoldable pub next_receiver_form : List (List ℕ) → Data → Reading (List ℕ)
next_receiver_form before d = do
  _ ← as_object d
  name ← required_text (codes "name") d
  _ ← reading_within (to_field (codes "name")) (refuse_for (receiver_name_fault before name))
  accept name

-- The names of a list of receivers.
unfoldable pub receiver_names_form : Form (List Data) (List (List ℕ))
receiver_names_form items = do
  _ ← check_count MAX_RECEIVERS (length items)
  read_items next_receiver_form [] items

-- The names of the receivers of a file, in the field `receivers`.
unfoldable pub receivers_form : Form Data (List (List ℕ))
receivers_form d = do
  items ← required_items (codes "receivers") d
  reading_within (to_field (codes "receivers")) (receiver_names_form items)

-- ---- The receiver of a route, and the values of its children.

-- The receiver of a route that sets none is that of its parent. The top-level route has no parent,
-- and is refused as `shape`.
abbrev pub parent_receiver : Option ℕ → Reading ℕ
parent_receiver parent = accept_or 0 parent (refusal_here kinds.Shape)

-- The position of the receiver with this name. The name is refused as `undefined-receiver` if no
-- receiver has it.
abbrev pub receiver_position : List (List ℕ) → List ℕ → Reading ℕ
receiver_position names name =
    accept_or 0 (position (λ other. same_text other name) names)
    (refusal_here kinds.UndefinedReceiver)

-- A list has no items.
abbrev pub is_empty : {A : Type 0} → List A → Bool
is_empty [] = true
is_empty (x ∷ xs) = false

-- The receiver of a route whose `receiver` is this text. The empty text counts as not set.
abbrev pub receiver_named : List (List ℕ) → Option ℕ → List ℕ → Reading ℕ
receiver_named names parent name =
    if is_empty name then parent_receiver parent else receiver_position names name

-- The same, if the field may be absent.
abbrev pub effective_receiver : List (List ℕ) → Option ℕ → Option Data → Reading ℕ
effective_receiver names parent None = parent_receiver parent
effective_receiver names parent (Some d) = as_text d >>= receiver_named names parent

-- The receiver of a route, from its field `receiver`.
unfoldable pub receiver_form : List (List ℕ) → Option ℕ → Data → Reading ℕ
receiver_form names parent d =
    reading_within (to_field (codes "receiver"))
    (effective_receiver names parent (field (codes "receiver") d))

-- ---- Matchers.

-- Matchers, appended to others. Together there may be at most `MAX_MATCHERS`.
abbrev pub append_matchers : List Matcher → List Matcher → Reading (List Matcher)
append_matchers before ms =
    check_count MAX_MATCHERS (length before + length ms) >>= λ _. accept (before ++ ms)

-- The matchers of an item, which is a text and comes with its position, appended to those of the
-- items before it. Too many are refused at the array.
unfoldable pub next_text_form : List Matcher → ℕ × Data → Reading (List Matcher)
next_text_form before item = do
  text ← reading_within (to_item item.0) (as_text item.1)
  ms ← matcher_text_form (to_item item.0) [] text
  append_matchers before ms

-- The matchers of the items of an array of texts, in order.
abbrev pub each_text_form : Form (List Data) (List Matcher)
each_text_form items = read_each next_text_form [] (enumerate_from 0 items)

-- The matcher of a name and a text, which is a pattern for some operators.
unfoldable pub matcher_pair_form : Op → List ℕ → Data → Reading Matcher
matcher_pair_form op name d = do
  value ← named_text_form name d
  check_matcher (record { name = name; op = op; value = value })

-- The same, appended to other matchers.
unfoldable pub next_pair_form : Op → List Matcher → List ℕ × Data → Reading (List Matcher)
next_pair_form op before pair = do
  m ← reading_within (to_field pair.0) (matcher_pair_form op pair.0 pair.1)
  append_matchers before (m ∷ [])

-- What is wrong with the matchers of a field: the top-level route may have none.
abbrev pub given_fault : Bool → List Matcher → Option Kind
given_fault is_root ms = if is_root && not (is_empty ms) then Some kinds.RootMatchers else None

-- These matchers. On the top-level route they are refused, if there are any.
abbrev pub refuse_root_matchers : Bool → List Matcher → Reading (List Matcher)
refuse_root_matchers is_root ms =
    refuse_for (given_fault is_root ms) >>= λ _. accept ms

-- The matchers of an array of texts.
unfoldable pub texts_form : Bool → Data → Reading (List Matcher)
texts_form is_root d = do
  items ← as_items d
  ms ← each_text_form items
  refuse_root_matchers is_root ms

-- The matchers of an object of names and texts, appended to others.
unfoldable pub pairs_form : Bool → Op → List Matcher → Data → Reading (List Matcher)
pairs_form is_root op before d = do
  members ← as_object d
  ms ← read_each (next_pair_form op) before (member_list members)
  refuse_root_matchers is_root ms

-- The matchers of an optional array of texts, as `matchers`.
abbrev pub optional_texts : Bool → List ℕ → Option Data → Reading (List Matcher)
optional_texts is_root key None = accept []
optional_texts is_root key (Some d) = reading_within (to_field key) (texts_form is_root d)

-- The matchers of an optional object of names and texts, as `match` and `match_re`, appended to
-- others.
abbrev pub optional_pairs : Bool → Op → List ℕ → List Matcher → Option Data
    → Reading (List Matcher)
optional_pairs is_root op key before None = accept before
optional_pairs is_root op key before (Some d) =
    reading_within (to_field key) (pairs_form is_root op before d)

-- The matchers of three fields, one field after the other.
unfoldable pub matchers_form : MatcherFields → Bool → Data → Reading (List Matcher)
matchers_form fields is_root d = do
  texts ← optional_texts is_root fields.texts (field fields.texts d)
  equal ← optional_pairs is_root Equal fields.equalities texts (field fields.equalities d)
  optional_pairs is_root Matches fields.patterns equal (field fields.patterns d)

-- ---- The routes.

-- The settings of a route. `parent` has the settings of its parent, if it has one.
unfoldable pub route_settings_form : List (List ℕ) → Parent → Data → Reading RouteSettings
route_settings_form names parent d = do
  _ ← check_only_fields route_fields d
  receiver ← receiver_form names (receiver_above parent) d
  matchers ← matchers_form route_matcher_fields (is_none parent) d
  continues ← read_boolean_or false (codes "continue") d
  accept (record {
    receiver = receiver;
    matchers = matchers;
    continues = continues;
    options = options_below (options_above parent) d;
  })

-- What is read of a route before its children: its settings, and the JSON values of the children.
pub record RouteFields : Type 0 where
  pub settings : RouteSettings
  pub items : List Data

-- The fields of a route. `before` is the number of routes before it in preorder.
unfoldable pub route_fields_form : List (List ℕ) → Parent → ℕ → Data → Reading RouteFields
route_fields_form names parent before d = do
  _ ← check_count MAX_ROUTES (before + 1)
  settings ← route_settings_form names parent d
  items ← read_optional_items (codes "routes") d
  accept (record { settings = settings; items = items })

-- The stand-in for a route below the last level: a route with no fields.
abbrev pub bare_route : RouteTree
bare_route = route (settings_with 0 [] false) no_routes

-- A route. `left` is the number of levels that are left, its own included. `before` is the number
-- of routes before it in preorder, and `parent` has the settings of its parent, if it has one.
unfoldable pub route_form : List (List ℕ) → ℕ → Parent → ℕ → Data → Reading RouteTree
route_form names zero parent before d = refuse bare_route (refusal_here kinds.Limit)
route_form names (suc left) parent before d = do
  fields ← route_fields_form names parent before d
  children ← reading_within (to_field (codes "routes")) (read_items
      (λ earlier. route_form names left (Some fields.settings)
      (before + 1 + routes_count (routes_of earlier)))
      [] fields.items)
  accept (route fields.settings (routes_of children))

-- A child of a route, after the children that were read before it.
abbrev pub next_child_form : List (List ℕ) → ℕ → RouteSettings → ℕ → List RouteTree → Data
    → Reading RouteTree
next_child_form names left parent before earlier =
    route_form names left (Some parent) (before + routes_count (routes_of earlier))

-- ---- Inhibition rules.

-- A name in `equal`.
unfoldable pub equal_name_form : Form Data (List ℕ)
equal_name_form d = do
  name ← as_text d
  _ ← refuse_for (label_name_fault name)
  accept name

-- The names in `equal`.
abbrev pub equal_form : Form Data (List (List ℕ))
equal_form d = read_optional_array (codes "equal") MAX_EQUAL_NAMES equal_name_form d

-- An inhibition rule.
unfoldable pub rule_form : Form Data Rule
rule_form d = do
  _ ← check_only_fields rule_fields d
  source ← matchers_form source_matcher_fields false d
  target ← matchers_form target_matcher_fields false d
  equal ← equal_form d
  accept (record { source = source; target = target; equal = equal })

-- The rules of the file, in `inhibit_rules`.
abbrev pub rules_form : Form Data (List Rule)
rules_form d = read_optional_array (codes "inhibit_rules") MAX_RULES rule_form d

-- ---- The file.

-- The configuration of a value. Its other fields may have any value.
unfoldable pub config_form : Form Data Configuration
config_form d = do
  _ ← as_object d
  names ← receivers_form d
  value ← required_field (codes "route") d
  root ← reading_within (to_field (codes "route")) (route_form names MAX_LEVELS None 0 value)
  rules ← rules_form d
  accept (record { receivers = names; root = root; rules = rules })

-- The configuration of the bytes of a file.
unfoldable pub config_file_form : Form (List ℕ) Configuration
config_file_form bytes = do
  d ← read_json bytes
  config_form d

-- ---- The first fault.

-- The refusal is the first fault of a JSON value, or of the bytes of a file.
abbrev pub IsFirstFaultOfConfig : Data → Refusal → Type 0
IsFirstFaultOfConfig d r = first_fault (config_form d).objections ≡ Some r

abbrev pub IsFirstFaultOfConfigFile : List ℕ → Refusal → Type 0
IsFirstFaultOfConfigFile bytes r = first_fault (config_file_form bytes).objections ≡ Some r

-- What a file may be refused for: its first fault, or a pattern with no fault before it.
abbrev pub ConfigFileRefusedFor : List ℕ → Refusal → Type 0
ConfigFileRefusedFor bytes r = IsRefusedFor (config_file_form bytes).objections r
