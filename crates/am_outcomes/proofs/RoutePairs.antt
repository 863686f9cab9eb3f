-- Routes in pairs.
use Rattle.std.proofs.Common.{◌≡◌, Bool, true, ◌&&◌, List, [], ◌∷◌, ◌++◌, Option}
use Rattle.std.proofs.Common.{Some, None, append_assoc, refl, ap, sym, ◌∙◌, inl, inr}
use Rattle.std.specs.List.{find, list_all}
use Rattle.std.proofs.lemmas.Bool.{and_parts, cases_Bool}
use lib.Pointwise.{pointwise}
use Rattle.am_universe.specs.Text.{same_text}
use Rattle.am_config.specs.ConfigFile.{Configuration, RouteTree, receiver_of}
use Rattle.am_report_texts.specs.ReceiverNames.{receiver_name}
use Rattle.am_outcomes.specs.Handling.{without_first, route_pairs, pair_of, has_receiver}

-- If no item passes a test, all are left without the first that does.
pub none_without : {X : Type 0} (test : X → Bool) (xs : List X) → find test xs ≡ None
    → without_first test xs ≡ xs
none_without test [] none = refl
none_without {X = X} test (x ∷ xs) none = elim (cases_Bool (test x)) [
  | inl e ↦ let some : Some x ≡ None = rw e at none in absurd (cc)
  | inr e ↦ rw e (ap (λ (l : List X). x ∷ l) (none_without test xs (rw e at none)))
]

module _ (old new : Configuration) where
  abbrev pub same_receiver : RouteTree → RouteTree → Bool
  same_receiver r t =
      same_text (receiver_name old (receiver_of r)) (receiver_name new (receiver_of t))

  -- If the receivers have the same names, one after the other, a test holds of all pairs exactly if
  -- it holds of the routes one after the other.
  pub pairs_in_order : (test : RouteTree → RouteTree → Bool) (rs ts : List RouteTree)
      → pointwise same_receiver rs ts ≡ true
      → list_all (λ p. test p.0 p.1) (route_pairs old new rs ts) ≡ pointwise test rs ts
  pairs_in_order test [] [] same = refl
  pairs_in_order test [] (t ∷ ts) same = absurd (cc)
  pairs_in_order test (r ∷ rs) [] same = absurd (cc)
  pairs_in_order test (r ∷ rs) (t ∷ ts) same =
      let parts = and_parts (same_receiver r t) (pointwise same_receiver rs ts) same in
      rw parts.0 (ap (λ b. test r t && b) (pairs_in_order test rs ts parts.1))

  -- One old route more: its pair, if it has one, and those of the routes that are left.
  module _ (done : List (RouteTree × RouteTree)) (r : RouteTree) (rs ts : List RouteTree)
      (all : List (RouteTree × RouteTree))
      (so_far : done ++ route_pairs old new (r ∷ rs) ts ≡ all) where
    abbrev test : RouteTree → Bool
    test = has_receiver new (receiver_name old (receiver_of r))

    abbrev with_found : Option RouteTree → List (RouteTree × RouteTree)
    with_found found = pair_of r found ++ route_pairs old new rs (without_first test ts)

    pub pair_found : (t : RouteTree) (left : List RouteTree) → find test ts ≡ Some t
        → left ≡ without_first test ts → (done ++ (r, t) ∷ []) ++ route_pairs old new rs left ≡ all
    pair_found t left found without =
        append_assoc done ((r, t) ∷ []) (route_pairs old new rs left)
        ∙ ap (λ l. done ++ (r, t) ∷ route_pairs old new rs l) without
        ∙ ap (λ f. done ++ with_found f) (sym found) ∙ so_far

    pub no_pair : find test ts ≡ None → done ++ route_pairs old new rs ts ≡ all
    no_pair none =
        ap (λ l. done ++ route_pairs old new rs l) (sym (none_without test ts none))
        ∙ ap (λ f. done ++ with_found f) (sym none) ∙ so_far
