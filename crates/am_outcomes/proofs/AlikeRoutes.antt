-- Two lists, one item after the other, and the options of pairs of routes.
use Rattle.std.proofs.Common.{◌≡◌, ℕ, Bool, true, false, ◌&&◌, List, [], ◌∷◌, map, refl, ap, sym, ◌∙◌}
use Rattle.std.specs.List.{list_all}
use Rattle.std.proofs.lemmas.List.Folds.{list_all-map}
use lib.Pointwise.{pointwise}
use Rattle.am_config.specs.ConfigFile.{RouteTree, options_of}
use Rattle.am_config.specs.RouteOptions.{RouteOptions}
use Rattle.am_differences.specs.Options.{same_options, differing_options}
use Rattle.am_differences.proofs.SameOptions.{none_differs}

-- ---- Two lists, pair by pair.

pub pointwise_mapped : {A B C D : Type 0} (f : A → C) (g : B → D) (e : C → D → Bool) (xs : List A)
    (ys : List B) → pointwise e (map f xs) (map g ys) ≡ pointwise (λ a b. e (f a) (g b)) xs ys
pointwise_mapped f g e [] [] = refl
pointwise_mapped f g e [] (y ∷ ys) = refl
pointwise_mapped f g e (x ∷ xs) [] = refl
pointwise_mapped f g e (x ∷ xs) (y ∷ ys) =
    ap (λ b. e (f x) (g y) && b) (pointwise_mapped f g e xs ys)

crossed : (a b c d : Bool) → ((a && b) && (c && d)) ≡ ((a && c) && (b && d))
crossed true true c d = refl
crossed true false true d = refl
crossed true false false d = refl
crossed false b c d = refl

module _ {A B : Type 0} where
  pub pointwise_both : (e h : A → B → Bool) (xs : List A) (ys : List B)
      → pointwise (λ a b. e a b && h a b) xs ys ≡ (pointwise e xs ys && pointwise h xs ys)
  pointwise_both e h [] [] = refl
  pointwise_both e h [] (y ∷ ys) = refl
  pointwise_both e h (x ∷ xs) [] = refl
  pointwise_both e h (x ∷ xs) (y ∷ ys) =
      ap (λ b. (e x y && h x y) && b) (pointwise_both e h xs ys)
      ∙ crossed (e x y) (h x y) (pointwise e xs ys) (pointwise h xs ys)

-- ---- The options of pairs of routes.

abbrev pub differing_in : List (RouteTree × RouteTree) → List ℕ
differing_in pairs = differing_options (map (λ p. (options_of p.0, options_of p.1)) pairs)

abbrev pub have_same_options : List (RouteTree × RouteTree) → Bool
have_same_options pairs = list_all (λ p. same_options (options_of p.0) (options_of p.1)) pairs

seen_in_pairs : (pairs : List (RouteTree × RouteTree))
    → list_all (λ (q : RouteOptions × RouteOptions). same_options q.0 q.1)
    (map (λ (p : RouteTree × RouteTree). (options_of p.0, options_of p.1)) pairs)
    ≡ have_same_options pairs
seen_in_pairs pairs =
    list_all-map (λ (q : RouteOptions × RouteOptions). same_options q.0 q.1)
    (λ (p : RouteTree × RouteTree). (options_of p.0, options_of p.1)) pairs

pub same_if_none_differs : (pairs : List (RouteTree × RouteTree)) → differing_in pairs ≡ []
    → have_same_options pairs ≡ true
same_if_none_differs pairs none =
    sym (seen_in_pairs pairs)
    ∙ (none_differs (map (λ p. (options_of p.0, options_of p.1)) pairs)).0 none

pub none_differs_if_same : (pairs : List (RouteTree × RouteTree)) → have_same_options pairs ≡ true
    → differing_in pairs ≡ []
none_differs_if_same pairs all =
    (none_differs (map (λ p. (options_of p.0, options_of p.1)) pairs)).1 (seen_in_pairs pairs ∙ all)
