-- The receivers of an alert are those of the routes that handle it.
use Rattle.std.proofs.Common.{◌≡◌, List, [], ◌∷◌, map, Option, Some, None, ℕ, option_map, refl, ap, ◌∙◌}
use Rattle.std.specs.Borrow.{Bor}
use Rattle.std.specs.List.{cons_option, filter_map}
use Rattle.am_universe.specs.LabelSet.{LabelMap}
use Rattle.am_config.specs.ConfigFile.{Configuration, RouteTree, receiver_of, options_of}
use Rattle.am_config.specs.Path.{route_at}
use Rattle.am_config.specs.RouteView.{route_view}
use Rattle.am_config.specs.declared.route.Route.{Route}
use Rattle.am_eval.specs.Routing.{ends, receivers}
use Rattle.am_differences.specs.Options.{differing_options, options_of_pairs}
use Rattle.am_outcomes.specs.Handling.{handling_routes, other_options, route_pairs}
use Rattle.am_outcomes.specs.OutcomesView.{pairs_view}

module _ {X Y Z : Type 0} (f : X → Option Y) (g : Y → Z) where
  one_more : (o : Option Y) (ys : List Y)
      → map g (cons_option o ys) ≡ cons_option (option_map g o) (map g ys)
  one_more None ys = refl
  one_more (Some y) ys = refl

  map_given : (xs : List X)
      → map g (filter_map f xs) ≡ filter_map (λ x. option_map g (f x)) xs
  map_given [] = refl
  map_given (x ∷ xs) =
      one_more (f x) (filter_map f xs) ∙ ap (cons_option (option_map g (f x))) (map_given xs)

pub handler_receivers : (s : LabelMap) (c : Configuration)
    → map receiver_of (handling_routes s c) ≡ receivers s c
handler_receivers s c = map_given (route_at c.root) receiver_of (ends s c)

-- The receivers of routes that were found, if they are those that handle the alert.
same_mapped : {X Y Z : Type 0} (view : X → Y) (f : Y → Z) (xs : List X)
    → map (λ x. f (view x)) xs ≡ map f (map view xs)
same_mapped view f [] = refl
same_mapped view f (x ∷ xs) = ap (λ ys. f (view x) ∷ ys) (same_mapped view f xs)

pub receivers_found : (s : LabelMap) (c : Configuration) (routes : List (Bor Route))
    (found : List ℕ) → map (λ r. route_view r.now) routes ≡ handling_routes s c
    → found ≡ map (λ r. receiver_of (route_view r.now)) routes → found ≡ receivers s c
receivers_found s c routes found are is =
    is ∙ same_mapped (λ (r : Bor Route). route_view r.now) receiver_of routes
    ∙ ap (map receiver_of) are ∙ handler_receivers s c

pub options_found : (s : LabelMap) (old new : Configuration)
    (pairs : List (Bor Route × Bor Route)) (before after : List RouteTree)
    → pairs_view pairs ≡ route_pairs old new before after → before ≡ handling_routes s old
    → after ≡ handling_routes s new
    → differing_options (options_of_pairs pairs) ≡ other_options old new s
options_found s old new pairs before after are olds news =
    ap differing_options
    (same_mapped (λ (p : Bor Route × Bor Route). (route_view p.0.now, route_view p.1.now))
    (λ p. (options_of p.0, options_of p.1)) pairs
    ∙ ap (map (λ p. (options_of p.0, options_of p.1)))
    (are ∙ (λ i. route_pairs old new (olds i) (news i))))
