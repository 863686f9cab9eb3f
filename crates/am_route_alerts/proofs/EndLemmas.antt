-- Which label sets end at a route, said by what is kept of the matchers of the routes on the way
-- and of those that may take them.
use Rattle.std.proofs.Common.{◌≡◌, ◌↔◌, ℕ, List, [], ◌∷◌, Bool, true, false, not, IsTrue}
use Rattle.std.proofs.Common.{◌&&◌, Some, map, take, drop, refl, ap, sym, ◌∙◌, subst, slice_get}
use Rattle.std.specs.Global.{Vec}
use Rattle.std.specs.List.{AllZip, filter, list_any}
use Rattle.std.proofs.lemmas.Bool.{and_parts, and_from, both_ways, not-false}
use Rattle.am_universe.specs.LabelSet.{LabelMap, label_set_of}
use Rattle.am_labels.specs.Matcher.{Matcher, all_hold, condition_holds}
use Rattle.am_labels.specs.Space.{Space, IsChoiceOf}
use Rattle.am_config.specs.ConfigFile.{Configuration, RouteTree, matchers_of}
use Rattle.am_config.specs.RoutePaths.{all_routes}
use Rattle.am_complete.proofs.ChosenTexts.{same_where_both}
use Rattle.am_complete.proofs.Pushed.{zip_right}
use Rattle.am_eval.specs.Reaching.{EndsAt, SomeIs, IsSetOf, IsDead}
use Rattle.am_first_sets.specs.declared.candidate.Candidate.{Candidate}
use Rattle.am_first_sets.specs.Literals.{holds_at, hold_all, meets, IsMet, IsUnmet}
use Rattle.am_first_sets.specs.Reason.{AreNamedBefore}
use Rattle.am_first_sets.specs.Solving.{marked}
use Rattle.am_lint.proofs.FoundOver.{each_place}
use Rattle.am_lint.proofs.LiteralTruth.{AreFront}
use Rattle.am_lint.proofs.TableLemmas.{zip_right as zip_member}
use Rattle.am_route_alerts.specs.declared.matcher_cubes.MatcherCube.{MatcherCube}
use Rattle.am_route_alerts.specs.EndMatchers.{SaysWhichEnd, IsListOf, way_matchers, takers}
use Rattle.am_route_alerts.specs.EndMatchers.{is_on_way}
use Rattle.am_route_alerts.specs.Implied.{IsSameFor, IsEachNeeded}
use Rattle.am_route_alerts.specs.KeptLists.{IsKeptList, AreKeptLists}
use Rattle.am_route_alerts.specs.MatcherCubes.{AreCubesOfRoutes, MeetsAll, cubes_at}
use Rattle.am_route_alerts.specs.Shortened.{IsShortened, all_but}
use Rattle.am_route_alerts.proofs.LiteralRoutes.{IsLiteralOf, AreOfRoutes}
use Rattle.am_route_alerts.proofs.LiteralRoutes.{cubes_of_its_route, their_matchers}
use Rattle.am_route_alerts.proofs.LiteralsHold.{matched_as, wanted_hold, front_named, meets_all}
use Rattle.am_route_alerts.proofs.LiteralsHold.{meets_named, meets_parts, named_marked}
use Rattle.am_route_alerts.proofs.LiteralsHold.{needed_behind, none_match, zip_but}
use Rattle.am_route_alerts.proofs.ZipLists.{zip_through}

-- ---- What is kept of matchers.

-- it is so for the same label sets, however they are described
pub shortened_alike : (A B : LabelMap → Type 0) (all kept : List Matcher)
    → ((set : LabelMap) → A set ↔ B set) → IsShortened A all kept → IsShortened B all kept
shortened_alike A B all kept same is = record {
  marks = is.marks;
  part = is.part;
  enough = λ set counts. is.enough set ((same set).1 counts);
  needed = λ i m at.
      let some = is.needed i m at in (some.0, (same some.0).0 some.1, some.2);
}

some_hold : (set : LabelMap) (marks : List Bool) (ms : List Matcher) → IsTrue (all_hold set ms)
    → IsTrue (all_hold set (marked marks ms))
some_hold set [] ms all = refl
some_hold set (mark ∷ marks) [] all = refl
some_hold set (true ∷ marks) (m ∷ ms) all =
    let parts = and_parts (condition_holds set m) (all_hold set ms) all in
    and_from (condition_holds set m) (all_hold set (marked marks ms)) parts.0
    (some_hold set marks ms parts.1)
some_hold set (false ∷ marks) (m ∷ ms) all =
    some_hold set marks ms (and_parts (condition_holds set m) (all_hold set ms) all).1

-- a label set that counts matches what is kept exactly if it matches all
pub kept_holds : (Counts : LabelMap → Type 0) (all kept : List Matcher)
    → IsShortened Counts all kept → (set : LabelMap) → Counts set
    → all_hold set kept ≡ all_hold set all
kept_holds Counts all kept is set counts =
    same_where_both (all_hold set kept) (all_hold set all) (is.enough set counts)
    (λ h. ap (all_hold set) is.part ∙ some_hold set is.marks all h)

-- ---- The route at a path.

-- the choices that count are those of the space
module _ (s : Space) (Is : List ℕ → Type 0) (alike : (d : List ℕ) → Is d ↔ IsChoiceOf s d)
    (c : Configuration) (path : List ℕ) (old : List Candidate)
    (front : AreFront s old (EndsAt c path)) where
  abbrev set_at : List ℕ → LabelMap
  set_at choice = label_set_of s.labels choice

  meets_old : (choice : List ℕ) → meets choice old ≡ hold_all choice old
  meets_old choice = meets_all choice old front.named

  -- no choice meets the literals
  pub none_end : IsUnmet Is old → IsDead (IsSetOf s) c path
  none_end none set (choice, possible, is) ends =
      both_ways (meets choice old) (none choice ((alike choice).1 possible))
      (meets_old choice ∙ (front.say choice possible).1 (subst (EndsAt c path) is ends))

  -- some choice does
  some_end : IsMet Is old → SomeIs (IsSetOf s) (EndsAt c path)
  some_end (choice, is, met) =
      let possible = (alike choice).0 is in (
        set_at choice,
        (choice, possible, refl),
        (front.say choice possible).0 (sym (meets_old choice) ∙ met),
      )

  -- some literals lose their names, and what is kept is found
  module _ (n : ℕ) (new : List Candidate) (of : AreOfRoutes s.labels c path n new)
      (first : AreNamedBefore n new) (same : IsSameFor Is old new)
      (needed : IsEachNeeded Is n new) (cubes : List (Vec MatcherCube))
      (known : AreCubesOfRoutes s.labels c cubes) (matchers : List Matcher)
      (short : IsShortened (MeetsAll s []) (way_matchers c path) matchers)
      (lists : List (List Matcher))
      (shorts : AreKeptLists s cubes (take n new) (drop n new) lists) where
    abbrev Counts : LabelMap → Type 0
    Counts set = IsSetOf s set × IsTrue (all_hold set matchers)

    way_kept : IsShortened (IsSetOf s) (way_matchers c path) matchers
    way_kept =
        shortened_alike (MeetsAll s []) (IsSetOf s) (way_matchers c path) matchers
        (λ set. (
          λ h. (h.0, h.1, h.3),
          λ h. (h.0, h.1, refl, h.2),
        )) short

    -- the first literals say what is kept of the matchers on the way
    on_way : (choice : List ℕ) → IsChoiceOf s choice
        → hold_all choice (take n new) ≡ all_hold (set_at choice) matchers
    on_way choice possible =
        wanted_hold s c choice possible (filter (is_on_way path) (all_routes c)) (take n new) of.way
        ∙ sym (kept_holds (IsSetOf s) (way_matchers c path) matchers way_kept (set_at choice)
        (choice, possible, refl))

    meets_way : (choice : List ℕ) → IsChoiceOf s choice
        → meets choice (take n new) ≡ all_hold (set_at choice) matchers
    meets_way choice possible =
        meets_all choice (take n new) (front_named n new first) ∙ on_way choice possible

    same_sets : (set : LabelMap) → MeetsAll s (take n new) set ↔ Counts set
    same_sets set = (
      λ (choice, possible, holds, is). (
        (choice, possible, is),
        ap (λ (x : LabelMap). all_hold x matchers) is ∙ sym (on_way choice possible) ∙ holds,
      ),
      λ ((choice, possible, is), holds). (
        choice,
        possible,
        on_way choice possible ∙ ap (λ (x : LabelMap). all_hold x matchers) (sym is) ∙ holds,
        is,
      ),
    )

    -- ---- The lists of the literals that stay named.

    abbrev marks : List Bool
    marks = map (λ (k : Candidate). k.named) (drop n new)

    abbrev named : List Candidate
    named = filter (λ k. k.named) (drop n new)

    named_routes : AllZip (IsLiteralOf s.labels c false) (marked marks (takers c path)) named
    named_routes =
        named_marked (IsLiteralOf s.labels c false) (takers c path) (drop n new) of.others

    kept_of : (route : List ℕ × RouteTree) (k : Candidate) (list : List Matcher)
        → IsLiteralOf s.labels c false route k
        → IsKeptList s cubes (take n new) k list → IsListOf (IsSetOf s) matchers route list
    kept_of route k list is kept =
        shortened_alike (MeetsAll s (take n new)) Counts (matchers_of route.1) list same_sets
        (subst (λ (ms : List Matcher). IsShortened (MeetsAll s (take n new)) ms list)
        (their_matchers s.labels (matchers_of route.1) (cubes_at cubes k.tag)
        (cubes_of_its_route s.labels c cubes known false route k is)) kept)

    lists_of_routes : AllZip (IsListOf (IsSetOf s) matchers) (marked marks (takers c path)) lists
    lists_of_routes =
        zip_through (IsLiteralOf s.labels c false) (IsKeptList s cubes (take n new))
        (IsListOf (IsSetOf s) matchers) (marked marks (takers c path)) named lists kept_of
        named_routes shorts

    -- where the way is matched, a list is matched exactly if its literal fails
    abbrev Opposes : Candidate → List Matcher → Type 0
    Opposes k list =
        (choice : List ℕ) → IsChoiceOf s choice → IsTrue (all_hold (set_at choice) matchers)
        → holds_at choice k ≡ not (all_hold (set_at choice) list)

    opposed : AllZip Opposes named lists
    opposed =
        each_place (IsKeptList s cubes (take n new)) Opposes named lists
        (λ k list i j kept choice possible holds.
        let (route, among, is) = zip_member (IsLiteralOf s.labels c false)
        (marked marks (takers c path)) named k named_routes i in
        matched_as s c choice possible false route k is
        ∙ ap not (sym (kept_holds Counts (matchers_of route.1) list (kept_of route k list is kept)
        (set_at choice) ((choice, possible, refl), holds)))) shorts

    -- so some lists are all unmatched where their literals are true
    none_of : (ks : List Candidate) (some : List (List Matcher)) → AllZip Opposes ks some
        → (choice : List ℕ) → IsChoiceOf s choice → IsTrue (all_hold (set_at choice) matchers)
        → hold_all choice ks ≡ not (list_any (all_hold (set_at choice)) some)
    none_of ks some each choice possible holds =
        none_match choice (set_at choice) ks some
        (each_place Opposes (λ k list. holds_at choice k ≡ not (all_hold (set_at choice) list)) ks
        some (λ k list i j opposes. opposes choice possible holds) each)

    -- ---- What follows.

    abbrev is_met : LabelMap → Bool
    is_met set = all_hold set matchers && not (list_any (all_hold set) lists)

    ends_where : (choice : List ℕ) → IsChoiceOf s choice
        → hold_all choice old ≡ is_met (set_at choice)
    ends_where choice possible =
        sym (meets_old choice) ∙ sym (same choice ((alike choice).1 possible))
        ∙ meets_parts choice n new
        ∙ (λ i. meets_way choice possible i && meets_named choice (drop n new) i)
        ∙ given (all_hold (set_at choice) matchers) _ _ (none_of named lists opposed choice possible)
      where
        given : (a b d : Bool) → (a ≡ true → b ≡ d) → (a && b) ≡ (a && d)
        given true b d so = so refl
        given false b d so = refl

    list_needed : (i : ℕ) (list : List Matcher) → slice_get lists i ≡ Some list
        → SomeIs (IsSetOf s) (λ set. IsTrue (all_hold set matchers
        && not (list_any (all_hold set) (all_but i lists))) × IsTrue (all_hold set list))
    list_needed i list at =
        let own = zip_right Opposes named lists i list opposed at in
        let (choice, is, met, fails, rest) = needed_behind Is n new needed i own.0 own.1 in
        let possible = (alike choice).0 is in
        let holds = sym (meets_way choice possible) ∙ met in
        let none = none_of (all_but i named) (all_but i lists)
        (zip_but Opposes i named lists opposed) choice possible holds in (
          set_at choice,
          (choice, possible, refl),
          (
            and_from (all_hold (set_at choice) matchers)
                (not (list_any (all_hold (set_at choice)) (all_but i lists))) holds
                (sym none ∙ rest),
            not-false (all_hold (set_at choice) list) (sym (own.2 choice possible holds) ∙ fails),
          ),
        )

    pub which_end : IsMet Is old
        → SaysWhichEnd (IsSetOf s) c path (record { matchers = matchers; unless = lists })
    which_end some = record {
      exactly = λ set (choice, possible, is). (
        λ ends.
            ap is_met is ∙ sym (ends_where choice possible)
            ∙ (front.say choice possible).1 (subst (EndsAt c path) is ends),
        λ met.
            subst (EndsAt c path) (sym is)
            ((front.say choice possible).0 (ends_where choice possible ∙ ap is_met (sym is) ∙ met)),
      );
      some = some_end some;
      way = way_kept;
      marks = marks;
      lists = lists_of_routes;
      needed = list_needed;
    }
