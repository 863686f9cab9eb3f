-- The code of a configuration: a tree of numbers, by which proofs tell configurations apart.
use Rattle.std.proofs.Common.{◌≡◌, ℕ, List, refl, sym, ap, subst}
use Rattle.std.specs.Coded.{Coded, code_by, coded×, coded_ℕ, coded_list}
use base.Stored.{Gv, gnil, gcons}
use Rattle.am_config.specs.contracts.rule.Rule as rule
use Rattle.am_config.specs.ConfigFile.{RouteTree, Routes, Rule, route, no_routes, next_route}
use Rattle.am_config.specs.ConfigFile.{Configuration}
use Rattle.am_config.specs.SettingsCode.{head, tail, IsPair, coded_settings}

-- The codes of a route with its children, and of children in order.
abbrev mutual
  pub route_code : RouteTree → Gv
  route_code (route settings children) =
      gcons (coded_settings.code settings) (routes_code children)

  pub routes_code : Routes → Gv
  routes_code no_routes = gnil
  routes_code (next_route t ts) = gcons (route_code t) (routes_code ts)

-- If the codes are the same, the trees are the same.
mutual
  pub route_told : (t u : RouteTree) → route_code t ≡ route_code u → t ≡ u
  route_told (route a ts) (route b us) e =
      λ i. route (coded_settings.inj a b (ap head e) i) (routes_told ts us (ap tail e) i)

  routes_told : (ts us : Routes) → routes_code ts ≡ routes_code us → ts ≡ us
  routes_told no_routes no_routes e = refl
  routes_told no_routes (next_route u us) e = absurd (subst IsPair (sym e) tt)
  routes_told (next_route t ts) no_routes e = absurd (subst IsPair e tt)
  routes_told (next_route t ts) (next_route u us) e =
      λ i. next_route (route_told t u (ap head e) i) (routes_told ts us (ap tail e) i)

abbrev pub coded_route : Coded RouteTree
coded_route = record { code = route_code; inj = route_told }

-- The code of inhibition rules in order.
abbrev coded_rules : Coded (List Rule)
coded_rules = coded_list rule.the_row.coded

-- The code of a configuration is made of the codes of its parts.
abbrev pub coded_config : Coded Configuration
coded_config =
    code_by (List (List ℕ) × (RouteTree × List Rule))
    (coded× (coded_list (coded_list coded_ℕ)) (coded× coded_route coded_rules))
    (λ c. (c.receivers, (c.root, c.rules)))
    (λ p. record { receivers = p.0; root = p.1.0; rules = p.1.1 }) (λ _. refl)
