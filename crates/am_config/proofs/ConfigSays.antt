-- A value says a configuration exactly if reading it finds no fault, and then it says the
-- configuration that reading gives.
use Rattle.std.proofs.Common.{◌≡◌, ℕ, zero, suc, ◌+◌, ◌<◌, ◌≤◌, List, [], ◌∷◌, ◌++◌, length, true}
use Rattle.std.proofs.Common.{false, Option, Some, None, Ok, inl, inr, refl, ap, subst, arith}
use Rattle.std.specs.Prelude.{codes, is_none, IfSome}
use Rattle.std.specs.List.{AllZip}
use Rattle.std.proofs.lemmas.Bool.{and_from}
use Rattle.std.proofs.lemmas.List.Quantifiers.{position-Some}
use borrow.Author.Tests.{lt-ltb}
use Rattle.serde_json.specs.Data.{Data}
use Rattle.am_universe.specs.Text.{same_text}
use Rattle.am_universe.specs.declared.kind.Kind.TheVariants as kinds
use Rattle.am_config.specs.declared.limits.TheConstants.{MAX_ROUTES, MAX_LEVELS, MAX_RULES}
use Rattle.am_json.specs.Json.{field}
use Rattle.am_json.specs.OptionalItems.{HasItems}
use Rattle.am_json.specs.Pointer.{refusal_here, refusal_within, to_field}
use Rattle.am_config.specs.RouteOptions.{options_below}
use Rattle.am_config.specs.ConfigFile.{Parent, receiver_above, options_above}
use Rattle.am_config.specs.ConfigFile.{RouteSettings, RouteTree, route, Routes, no_routes}
use Rattle.am_config.specs.ConfigFile.{next_route, Configuration, IsConfig, Rule}
use Rattle.am_config.specs.ConfigFile.{routes_of, matchers_of, route_count, routes_count}
use Rattle.am_config.specs.ConfigFile.{route_levels, routes_levels, route_fields}
use Rattle.am_config.specs.ConfigFile.{has_receivers_below, have_receivers_below}
use Rattle.am_config.specs.ConfigFile.{route_matcher_fields, SaysReceiver, SaysSettings}
use Rattle.am_config.specs.ConfigFile.{SaysRoute, SaysRoutes, SaysRule, SaysConfig}
use Rattle.am_config.specs.ConfigForm.{RouteFields, route_fields_form, route_form}
use Rattle.am_config.specs.ConfigForm.{next_child_form, config_form, route_settings_form}
use Rattle.am_config.specs.ConfigForm.{rule_form}
use Rattle.am_config.specs.Path.{list_of}
use Rattle.am_json.proofs.Deciding.{accept_decides, behind_decides, boolean_decides, count_decides}
use Rattle.am_json.proofs.Deciding.{found_decides, object_of, only_fields_decide}
use Rattle.am_json.proofs.Deciding.{optional_items_decide, said_as, then_decides, within_decides}
use Rattle.am_json.proofs.Items.{AllFit, optional_array_decides, read_items_decide}
use Rattle.am_json.proofs.Readings.{Decides}
use Rattle.am_config.proofs.ConfigParts.{names_decide, receiver_decides}
use Rattle.am_config.proofs.MatchersSay.{matchers_decide}
use Rattle.am_config.proofs.Paths.{some_levels}
use Rattle.am_config.proofs.Routing.{count_push}
use Rattle.am_config.proofs.RuleSays.{rule_decides}

-- ---- The fields of a route.

-- the settings that are said; those of the top-level route have no matchers
abbrev AreSettings : List (List ℕ) → Parent → Data → RouteSettings → Type 0
AreSettings names parent d settings =
    SaysSettings names parent d settings × (is_none parent ≡ true → settings.matchers ≡ [])

settings_decide : (names : List (List ℕ)) (parent : Parent) (d : Data)
    → Decides (AreSettings names parent d) ((route_settings_form names parent d).result)
unfolding route_settings_form
settings_decide names parent d =
    said_as
    (then_decides (only_fields_decide route_fields d)
    (λ _. then_decides (receiver_decides names (receiver_above parent) d)
    (λ receiver. then_decides (matchers_decide route_matcher_fields (is_none parent) d)
    (λ matchers. then_decides (boolean_decides false (codes "continue") d)
    (λ continues. accept_decides (record {
      receiver = receiver;
      matchers = matchers;
      continues = continues;
      options = options_below (options_above parent) d;
    }))))))
    (λ settings (_, only, (receiver, r, (matchers, (m, none), (continues, c, is)))).
    subst (λ (s : RouteSettings). AreSettings names parent d s) is (
      record {
        only = only;
        receiver_is = r;
        matchers_are = m;
        continues_is = c;
        options_are = refl;
      },
      none,
    ))
    (λ settings (said, none). (
      tt,
      said.only,
      (
        settings.receiver,
        said.receiver_is,
        (
          settings.matchers,
          (said.matchers_are, none),
          (settings.continues, said.continues_is, rw (← said.options_are) refl),
        ),
      ),
    ))

-- there is room for a route, and these are its settings and the values of its children
pub record AreFields (names : List (List ℕ)) (parent : Parent) (before : ℕ) (d : Data)
    (fields : RouteFields) : Type 0 where
  pub room : before + 1 ≤ MAX_ROUTES
  pub settings : AreSettings names parent d fields.settings
  pub items : HasItems (codes "routes") d fields.items

pub fields_decide : (names : List (List ℕ)) (parent : Parent) (before : ℕ) (d : Data)
    → Decides (AreFields names parent before d) ((route_fields_form names parent before d).result)
unfolding route_fields_form
fields_decide names parent before d =
    said_as
    (then_decides (count_decides MAX_ROUTES (before + 1))
    (λ _. then_decides (settings_decide names parent d)
    (λ settings. then_decides (optional_items_decide (codes "routes") d)
    (λ items. accept_decides (record { settings = settings; items = items })))))
    (λ fields (_, room, (settings, said, (items, has, is))).
    subst (λ (f : RouteFields). AreFields names parent before d f) is
    (record { room = room; settings = said; items = has }))
    (λ fields said.
    (tt, said.room, (fields.settings, said.settings, (fields.items, said.items, refl))))

-- ---- Routes.

-- a route that is said, with `left` levels left and `before` routes before it
pub record IsSaid (names : List (List ℕ)) (left : ℕ) (parent : Parent) (before : ℕ) (d : Data)
    (t : RouteTree) : Type 0 where
  pub says : SaysRoute names parent d t
  pub levels : route_levels t ≤ left
  pub number : before + route_count t ≤ MAX_ROUTES
  pub unmatched : is_none parent ≡ true → matchers_of t ≡ []

-- a child fits behind the earlier ones
record ChildFits (left before : ℕ) (earlier : List RouteTree) (t : RouteTree) : Type 0 where
  levels : route_levels t ≤ left
  number : before + routes_count (routes_of earlier) + route_count t ≤ MAX_ROUTES

module _ (left before : ℕ) where
  fitted : (earlier ts : List RouteTree) → before + routes_count (routes_of earlier) ≤ MAX_ROUTES
      → AllFit (ChildFits left before) earlier ts
      → (routes_levels (routes_of ts) ≤ left)
      × (before + routes_count (routes_of earlier) + routes_count (routes_of ts) ≤ MAX_ROUTES)
  fitted earlier [] room fits = (omega arith, omega arith)
  fitted earlier (t ∷ ts) room fits =
      let push = count_push earlier t in
      let rest =
      fitted (earlier ++ t ∷ []) ts (omega (arith, push, fits.0.number)) fits.1 in
      (omega (arith, fits.0.levels, rest.0), omega (arith, push, rest.1))

  fitting : (earlier ts : List RouteTree) → routes_levels (routes_of ts) ≤ left
      → before + routes_count (routes_of earlier) + routes_count (routes_of ts) ≤ MAX_ROUTES
      → AllFit (ChildFits left before) earlier ts
  fitting earlier [] levels total = tt
  fitting earlier (t ∷ ts) levels total = (
    record { levels = omega (arith, levels); number = omega (arith, total) },
    fitting (earlier ++ t ∷ []) ts (omega (arith, levels))
        (omega (arith, total, count_push earlier t)),
  )

module _ (names : List (List ℕ)) (parent : RouteSettings) where
  each_said : (ds : List Data) (ts : List RouteTree) → AllZip (SaysRoute names (Some parent)) ds ts
      → SaysRoutes names parent ds (routes_of ts)
  each_said [] [] said = tt
  each_said [] (t ∷ ts) said = absurd said
  each_said (d ∷ ds) [] said = absurd said
  each_said (d ∷ ds) (t ∷ ts) said = (said.0, each_said ds ts said.1)

  said_each : (ds : List Data) (ts : Routes) → SaysRoutes names parent ds ts
      → AllZip (SaysRoute names (Some parent)) ds (list_of ts)
  said_each [] no_routes said = tt
  said_each [] (next_route t ts) said = absurd said
  said_each (d ∷ ds) no_routes said = absurd said
  said_each (d ∷ ds) (next_route t ts) said = (said.0, said_each ds ts said.1)

of_list : (ts : Routes) → routes_of (list_of ts) ≡ ts
of_list no_routes = refl
of_list (next_route t ts) = ap (λ (us : Routes). next_route t us) (of_list ts)

-- the children that are read of the values of a route
abbrev AreChildren : List (List ℕ) → ℕ → ℕ → RouteFields → List RouteTree → Type 0
AreChildren names left before fields ts =
    AllZip (SaysRoute names (Some fields.settings)) fields.items ts
    × AllFit (ChildFits left (before + 1)) [] ts

in_parts : (names : List (List ℕ)) (left : ℕ) (parent : Parent) (before : ℕ) (d : Data)
    (t : RouteTree) → IsSaid names (suc left) parent before d t
    → (fields : RouteFields) × AreFields names parent before d fields
    × ((ts : List RouteTree) × AreChildren names left before fields ts
    × (route fields.settings (routes_of ts) ≡ t))
in_parts names left parent before d (route settings children) said =
    let same = of_list children in (
      record { settings = settings; items = said.says.items },
      record {
        room = omega (arith, said.number);
        settings = (said.says.settings_are, said.unmatched);
        items = said.says.is_array;
      },
      (
        list_of children,
        (
          said_each names settings said.says.items children said.says.children,
          fitting left (before + 1) [] (list_of children)
              (omega (arith, said.levels, ap routes_levels same))
              (omega (arith, said.number, ap routes_count same)),
        ),
        ap (λ (ts : Routes). route settings ts) same,
      ),
    )

route_decides : (names : List (List ℕ)) (left : ℕ) (parent : Parent) (before : ℕ) (d : Data)
    → Decides (IsSaid names left parent before d) ((route_form names left parent before d).result)
unfolding route_form
route_decides names zero parent before d = record {
  says = λ t h. absurd cc;
  reads = λ t said. absurd (omega (arith, said.levels, some_levels t));
}
route_decides names (suc left) parent before d =
    said_as
    (then_decides (fields_decide names parent before d)
    (λ fields. then_decides
    (within_decides (to_field (codes "routes"))
    (read_items_decide (SaysRoute names (Some fields.settings))
    (ChildFits left (before + 1)) (next_child_form names left fields.settings (before + 1))
    (λ earlier e. said_as
    (route_decides names left (Some fields.settings)
    (before + 1 + routes_count (routes_of earlier)) e)
    (λ t said. (said.says, record { levels = said.levels; number = said.number }))
    (λ t (said, fits). record {
      says = said;
      levels = fits.levels;
      number = fits.number;
      unmatched = λ none. absurd cc;
    })) fields.items))
    (λ children. accept_decides (route fields.settings (routes_of children)))))
    (λ t (fields, are, (ts, (each, fits), is)).
    let fit = fitted left (before + 1) [] ts (omega (arith, are.room)) fits in
    subst (λ (s : RouteTree). IsSaid names (suc left) parent before d s) is (record {
      says = record {
        settings_are = are.settings.0;
        items = fields.items;
        is_array = are.items;
        children = each_said names fields.settings fields.items ts each;
      };
      levels = omega (arith, fit.0);
      number = omega (arith, fit.1);
      unmatched = are.settings.1;
    }))
    (λ t said. in_parts names left parent before d t said)

-- ---- The receivers of routes.

module _ (names : List (List ℕ)) where
  abbrev IsBelow : Option ℕ → Type 0
  IsBelow parent = IfSome parent (λ p. p < length names)

  receiver_below : (parent : Option ℕ) (d : Data) (r : ℕ) → IsBelow parent
      → SaysReceiver names parent d r → r < length names
  receiver_below parent d r below (inl said) =
      (position-Some (λ other. same_text other said.name) names r [] said.declared).0
  receiver_below parent d r below (inr said) = rw said.inherited at below

  mutual
    route_below : (parent : Parent) (d : Data) (t : RouteTree) → IsBelow (receiver_above parent)
        → SaysRoute names parent d t → has_receivers_below (length names) t ≡ true
    route_below parent d (route settings children) below said =
        let here =
        receiver_below (receiver_above parent) d settings.receiver below
        said.settings_are.receiver_is in
        and_from _ _ (lt-ltb settings.receiver (length names) here)
        (routes_below settings said.items children here said.children)

    routes_below : (parent : RouteSettings) (ds : List Data) (ts : Routes)
        → parent.receiver < length names → SaysRoutes names parent ds ts
        → have_receivers_below (length names) ts ≡ true
    routes_below parent ds no_routes below said = refl
    routes_below parent [] (next_route t ts) below said = absurd said
    routes_below parent (d ∷ ds) (next_route t ts) below said =
        and_from _ _ (route_below (Some parent) d t below said.0)
        (routes_below parent ds ts below said.1)

-- ---- The configuration.

pub config_sound : (names : List (List ℕ)) (d : Data) (t : RouteTree) (rules : List Rule)
    → (route_form names MAX_LEVELS None 0 d).result ≡ Ok t
    → IsConfig (record { receivers = names; root = t; rules = rules })
config_sound names d t rules h =
    let said = (route_decides names MAX_LEVELS None 0 d).says t h in
    record {
      receivers_declared = route_below names None d t tt said.says;
      root_unmatched = ap length (said.unmatched refl);
      routes_within_limit = omega (arith, said.number);
      levels_within_limit = said.levels;
    }

pub config_decides : (d : Data) → Decides (SaysConfig d) ((config_form d).result)
unfolding config_form
config_decides d =
    behind_decides (λ c said. object_of (codes "route") d said.root said.has_root)
    (said_as
    (then_decides (names_decide d)
    (λ names. then_decides
    (found_decides (field (codes "route") d)
    (refusal_within (to_field (codes "route")) (refusal_here kinds.Shape)))
    (λ value. then_decides
    (within_decides (to_field (codes "route")) (route_decides names MAX_LEVELS None 0 value))
    (λ root. then_decides
    (optional_array_decides SaysRule rule_form rule_decides MAX_RULES (codes "inhibit_rules") d)
    (λ rules. accept_decides
    (record { receivers = names; root = root; rules = rules }))))))
    (λ c (
      names,
      (items, is_array, named, few, distinct),
      (value, there, (root, said, (rules, ruled, is))),
    ).
    subst (λ (x : Configuration). SaysConfig d x) is (record {
      items = items;
      is_array = is_array;
      names = named;
      few = few;
      distinct = distinct;
      root = value;
      has_root = there;
      says_root = said.says;
      unmatched = said.unmatched refl;
      few_routes = omega (arith, said.number);
      few_levels = said.levels;
      rules = ruled;
    }))
    (λ c said. (
      c.receivers,
      (said.items, said.is_array, said.names, said.few, said.distinct),
      (
        said.root,
        said.has_root,
        (
          c.root,
          record {
            says = said.says_root;
            levels = said.few_levels;
            number = omega (arith, said.few_routes);
            unmatched = λ _. said.unmatched;
          },
          (c.rules, said.rules, refl),
        ),
      ),
    )))
