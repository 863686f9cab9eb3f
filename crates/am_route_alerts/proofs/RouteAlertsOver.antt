-- What is said of routes over a space that stands for its alerts is so of all these alerts.
use Rattle.std.proofs.Common.{◌≡◌, ℕ, List, [], ◌∷◌, Bool, true, false}
use Rattle.std.proofs.Common.{Option, Some, None, inl, inr, refl, sym, subst, ◌∙◌}
use Rattle.std.specs.Prelude.{IsTrue, ◌&&◌}
use Rattle.std.specs.List.{filter}
use Rattle.am_universe.specs.LabelSet.{LabelMap, label_set_of}
use Rattle.am_universe.proofs.ListLemmas.{IsIn, IsIn-split, AllByRecursion-each, AllByRecursion-at}
use Rattle.am_universe.proofs.Members.{in_joined}
use Rattle.am_labels.specs.Matcher.{Matcher, all_hold, condition_holds}
use Rattle.am_labels.specs.Space.{Space}
use Rattle.am_labels.proofs.Passing.{passes_from_kept}
use Rattle.am_config.specs.ConfigFile.{Configuration, RouteTree, route, matchers_of}
use Rattle.am_config.specs.RoutePaths.{all_routes}
use Rattle.am_first_sets.specs.Solving.{marked}
use Rattle.am_asked.specs.Asked.{route_matchers, routes_matchers}
use Rattle.am_complete.specs.Complete.{impossible_matchers}
use Rattle.am_classes.specs.declared.alphabet.Alphabet.{Alphabet}
use Rattle.am_eval.specs.Reaching.{IsSetOf, EndsAt, SomeIs}
use Rattle.am_every_alert.specs.EveryAlert.{IsAlertOf, MeetsTheSame}
use Rattle.am_every_alert.specs.Deciding.{StandsFor}
use Rattle.am_every_alert.proofs.TreatedAlike.{front_met, all_alike, same_possible}
use Rattle.am_every_alert.proofs.SpaceAlerts.{IsToldBy, meets_turned, choice_of_alert}
use Rattle.am_every_alert.proofs.SpaceAlerts.{alert_of_set, ends_told}
use Rattle.am_lint.proofs.FoundOver.{each_place}
use Rattle.am_lint.proofs.TableLemmas.{zip_right, stands_at}
use Rattle.am_lint.proofs.Transfer.{met_at}
use Rattle.am_route_alerts.specs.Shortened.{IsShortened}
use Rattle.am_route_alerts.specs.EndMatchers.{EndMatchers, meets, is_on_way, way_matchers}
use Rattle.am_route_alerts.specs.EndMatchers.{takes_before, takes_below, takers, IsListOf}
use Rattle.am_route_alerts.specs.EndMatchers.{SaysWhichEnd, IsEnds}
use Rattle.am_route_alerts.specs.RouteAlerts.{RouteAlerts, IsRouteAlerts, are_asked}
use Rattle.am_route_alerts.specs.RouteAlerts.{AreRouteAlerts}

-- ---- Marked members.

in_marked : {X : Type 0} (marks : List Bool) (xs : List X) (x : X) → IsIn (marked marks xs) x
    → IsIn xs x
in_marked [] xs x h = absurd h
in_marked (m ∷ marks) [] x h = absurd h
in_marked (true ∷ marks) (y ∷ xs) x (inl same) = inl same
in_marked (true ∷ marks) (y ∷ xs) x (inr later) = inr (in_marked marks xs x later)
in_marked (false ∷ marks) (y ∷ xs) x h = inr (in_marked marks xs x h)

-- ---- What is met of the matchers of all routes tells what is met of those of a line.

module _ (c : Configuration) where
  abbrev routes : List Matcher
  routes = route_matchers c.root

  -- of the matchers of the routes, and so of these, two label sets meet the same
  abbrev AreTold : List Matcher → Type 0
  AreTold ms = (s t : LabelMap) → MeetsTheSame routes s t → MeetsTheSame ms s t

  -- matchers are told if each of them is among some that are
  told_by_each : (ms : List Matcher)
      → ((m : Matcher) → IsIn ms m → (ns : List Matcher) × AreTold ns × IsIn ns m) → AreTold ms
  told_by_each ms each s t met =
      AllByRecursion-each (λ m. condition_holds s m ≡ condition_holds t m) ms (λ m i.
      let r = each m i in
      AllByRecursion-at (λ n. condition_holds s n ≡ condition_holds t n) r.0 m (r.1 s t met) r.2)

  own_told : (found : List ℕ × RouteTree) → IsIn (all_routes c) found
      → AreTold (matchers_of found.1)
  own_told found there s t met =
      own found.1 (met_at s t c.root found.0 found.1 met (stands_at c found there))
    where
      own : (r : RouteTree) → MeetsTheSame (route_matchers r) s t
          → MeetsTheSame (matchers_of r) s t
      own (route settings children) h =
          front_met s t settings.matchers (routes_matchers children) h

  way_told : (path : List ℕ) → AreTold (way_matchers c path)
  way_told path = told_by_each (way_matchers c path) (λ m i.
      let own = λ (found : List ℕ × RouteTree). matchers_of found.1 in
      let r = in_joined own (filter (is_on_way path) (all_routes c)) m i in
      (own r.0, own_told r.0 (passes_from_kept (is_on_way path) (all_routes c) r.0 r.1).0, r.2))

  kept_told : (Counts : LabelMap → Type 0) (all kept : List Matcher) → AreTold all
      → IsShortened Counts all kept → AreTold kept
  kept_told Counts all kept told by = told_by_each kept (λ m i.
      (all, told, in_marked by.marks all m (subst (λ ms. IsIn ms m) by.part i)))

  taker_told : (path : List ℕ) (found : List ℕ × RouteTree) → IsIn (takers c path) found
      → AreTold (matchers_of found.1)
  taker_told path found there =
      let before = filter (takes_before path) (all_routes c) in
      let below = filter (takes_below path) (all_routes c) in
      own_told found (elim (IsIn-split before below found there) [
        | inl i ↦ (passes_from_kept (takes_before path) (all_routes c) found i).0
        | inr i ↦ (passes_from_kept (takes_below path) (all_routes c) found i).0
      ])

  matched_told : (ms : List Matcher) → AreTold ms
      → IsToldBy routes (λ set. IsTrue (all_hold set ms))
  matched_told ms told s t met h = sym (all_alike s t ms (told s t met)) ∙ h

  -- ---- Label sets that count, and the alerts that they stand for.

  record StandFor (Counts Alerts : LabelMap → Type 0) : Type 0 where
    each : (alert : LabelMap) → Alerts alert
        → (set : LabelMap) × Counts set × MeetsTheSame routes set alert
    all : (set : LabelMap) → Counts set → Alerts set

  -- so do those with a property for the alerts with it
  stand_where : (Counts Alerts Is : LabelMap → Type 0) → IsToldBy routes Is
      → StandFor Counts Alerts
      → StandFor (λ set. Counts set × Is set) (λ set. Alerts set × Is set)
  stand_where Counts Alerts Is told stand = record {
    each = λ alert h.
        let r = stand.each alert h.0 in
        (r.0, (r.1, told alert r.0 (meets_turned routes r.0 alert r.2) h.1), r.2);
    all = λ set h. (stand.all set h.0, h.1);
  }

  module _ (Counts Alerts : LabelMap → Type 0) (stand : StandFor Counts Alerts) where
    some_so : (Is : LabelMap → Type 0) → SomeIs Counts Is → SomeIs Alerts Is
    some_so Is some = (some.0, stand.all some.0 some.1, some.2)

    shortened_so : (all kept : List Matcher) → AreTold all → IsShortened Counts all kept
        → IsShortened Alerts all kept
    shortened_so all kept told by = record {
      marks = by.marks;
      part = by.part;
      enough = λ alert is h.
          let r = stand.each alert is in
          let back = meets_turned routes r.0 alert r.2 in
          matched_told all told r.0 alert r.2
          (by.enough r.0 r.1
          (matched_told kept (kept_told Counts all kept told by) alert r.0 back h));
      needed = λ i m at. some_so _ (by.needed i m at);
    }

  module _ (Counts Alerts : LabelMap → Type 0) (stand : StandFor Counts Alerts) where
    list_so : (ms : List Matcher) → AreTold ms → (found : List ℕ × RouteTree)
        → AreTold (matchers_of found.1) → (list : List Matcher) → IsListOf Counts ms found list
        → IsListOf Alerts ms found list
    list_so ms told found own list =
        shortened_so (λ set. Counts set × IsTrue (all_hold set ms))
        (λ set. Alerts set × IsTrue (all_hold set ms))
        (stand_where Counts Alerts _ (matched_told ms told) stand) (matchers_of found.1) list own

    -- ---- The line of a route.

    module _ (path : List ℕ) (e : EndMatchers) (says : SaysWhichEnd Counts c path e) where
      matchers_told : AreTold e.matchers
      matchers_told =
          kept_told Counts (way_matchers c path) e.matchers (way_told path) says.way

      marked_told : (found : List ℕ × RouteTree)
          → IsIn (marked says.marks (takers c path)) found → AreTold (matchers_of found.1)
      marked_told found there =
          taker_told path found (in_marked says.marks (takers c path) found there)

      lists_told : AreTold (impossible_matchers e.unless)
      lists_told = told_by_each (impossible_matchers e.unless) (λ m i.
          let list = in_joined (λ (ms : List Matcher). ms) e.unless m i in
          let taker = zip_right (IsListOf Counts e.matchers) (marked says.marks (takers c path))
          e.unless list.0 says.lists list.1 in (
            list.0,
            kept_told (λ set. Counts set × IsTrue (all_hold set e.matchers))
                (matchers_of taker.0.1) list.0 (marked_told taker.0 taker.1) taker.2,
            list.2,
          ))

      line_told : IsToldBy routes (λ set. IsTrue (meets set e))
      line_told s t met h =
          let matchers = all_alike s t e.matchers (matchers_told s t met) in
          let lists = same_possible s t e.unless (lists_told s t met) in
          let same : meets s e ≡ meets t e = λ i. matchers i && lists i in sym same ∙ h

      says_so : SaysWhichEnd Alerts c path e
      says_so = record {
        exactly = λ alert is.
            let r = stand.each alert is in
            let back = meets_turned routes r.0 alert r.2 in
            let there = says.exactly r.0 r.1 in (
              λ ends. line_told r.0 alert r.2 (there.0 (ends_told c path alert r.0 back ends)),
              λ met. ends_told c path r.0 alert r.2 (there.1 (line_told alert r.0 back met)),
            );
        some = some_so Counts Alerts stand (EndsAt c path) says.some;
        way = shortened_so Counts Alerts stand (way_matchers c path) e.matchers (way_told path)
            says.way;
        marks = says.marks;
        lists = each_place (IsListOf Counts e.matchers) (IsListOf Alerts e.matchers)
            (marked says.marks (takers c path)) e.unless
            (λ found list i j. list_so e.matchers matchers_told found (marked_told found i) list)
            says.lists;
        needed = λ i list at. some_so Counts Alerts stand _ (says.needed i list at);
      }

    ends_so : (path : List ℕ) (found : Option EndMatchers) → IsEnds Counts c path found
        → IsEnds Alerts c path found
    ends_so path None none = λ alert is ends.
        let r = stand.each alert is in
        none r.0 r.1 (ends_told c path alert r.0 (meets_turned routes r.0 alert r.2) ends)
    ends_so path (Some e) says = says_so path e says

    -- ---- All lines.

    routes_so : (receivers : Option (List ℕ)) (found : List RouteAlerts)
        → AreRouteAlerts Counts c receivers found → AreRouteAlerts Alerts c receivers found
    routes_so receivers found =
        each_place (IsRouteAlerts Counts c) (IsRouteAlerts Alerts c) (are_asked receivers c) found
        (λ route line i j is. (is.0, is.1, ends_so route.0 line.ends is.2))

-- ---- The label sets of a space stand for its alerts.

pub route_alerts_over : (a : Alphabet) (s : Space) (c : Configuration)
    (receivers : Option (List ℕ)) (found : List RouteAlerts) → StandsFor a s (route_matchers c.root)
    → AreRouteAlerts (IsSetOf s) c receivers found → AreRouteAlerts (IsAlertOf a s) c receivers found
route_alerts_over a s c receivers found h =
    routes_so c (IsSetOf s) (IsAlertOf a s) stand receivers found
  where
    stand : StandFor c (IsSetOf s) (IsAlertOf a s)
    stand = record {
      each = λ alert is.
          let r = choice_of_alert a s (route_matchers c.root) alert h.universe h.complete is in
          (label_set_of s.labels r.0, (r.0, r.1, refl), r.2);
      all = alert_of_set a s (route_matchers c.root) h;
    }
