-- One receiver more that is found, and lists that are put together.
use Rattle.std.proofs.Common.{◌≡◌, ℕ, ◌+◌, List, [], ◌∷◌, ◌++◌, map, take, length}
use Rattle.std.proofs.Common.{slice_get, Option, Some, None, option_map, refl, ap, sym, ◌∙◌}
use Rattle.std.specs.List.{cons_option, find}
use Rattle.std.proofs.lemmas.List.{map-append, append_assoc, length-append, length-map}
use Rattle.std.proofs.lemmas.List.Elements.{filter_map-append}
use Rattle.am_judged_lists.proofs.RowLemmas.{one_more}
use Rattle.am_outcomes.specs.Changes.{is_only_among, first_on_one_side}
use Rattle.am_outcomes.proofs.ChangesFound.{Change}

-- ---- One receiver more that is found.

module _ {C : Type 0} where
  -- a receiver with what is found for it, if there is a change
  abbrev pub with_found : List ℕ → Option C → List (List ℕ × C)
  with_found name None = []
  with_found name (Some beside) = (name, beside) ∷ []

  found_with : (name : List ℕ) (change : Option (Change C))
      → with_found name (option_map (λ (c : Change C). c.1) change)
      ≡ cons_option (option_map (λ (c : Change C). (name, c.1)) change) []
  found_with name None = refl
  found_with name (Some change) = refl

  pub found_more : (names others : List (List ℕ) → List (List ℕ)) (changes : List (Change C))
      (receivers : List (List ℕ)) (i : ℕ) (name : List ℕ) (found : List (List ℕ × C))
      (beside : Option C) → slice_get receivers i ≡ Some name
      → found ≡ first_on_one_side names others changes (take i receivers)
      → beside ≡ option_map (λ (c : Change C). c.1)
      (find (λ (c : Change C). is_only_among (names c.0) (others c.0) name) changes)
      → found ++ with_found name beside
      ≡ first_on_one_side names others changes (take (i + 1) receivers)
  found_more names others changes receivers i name found beside at so_far is =
      let first = λ (n : List ℕ). option_map (λ (c : Change C). (n, c.1))
      (find (λ (c : Change C). is_only_among (names c.0) (others c.0) n) changes) in
      (λ j. so_far j ++ with_found name (is j))
      ∙ ap (λ more. first_on_one_side names others changes (take i receivers) ++ more)
      (found_with name
      (find (λ (c : Change C). is_only_among (names c.0) (others c.0) name) changes))
      ∙ sym (filter_map-append first (take i receivers) (name ∷ []))
      ∙ sym (ap (first_on_one_side names others changes) (one_more receivers i name at))

-- ---- Lists that are put together.

pub two_more : {X Y : Type 0} (f : X → Y) (xs ys zs : List X) (x y : X) (us : List Y)
    → ys ≡ xs ++ x ∷ [] → zs ≡ ys ++ y ∷ [] → map f xs ≡ us
    → map f zs ≡ us ++ (f x ∷ f y ∷ [])
two_more f xs ys zs x y us more last seen =
    ap (map f) (last ∙ ap (λ l. l ++ y ∷ []) more)
    ∙ map-append f (xs ++ x ∷ []) (y ∷ [])
    ∙ ap (λ l. l ++ f y ∷ []) (map-append f xs (x ∷ []) ∙ ap (λ l. l ++ f x ∷ []) seen)
    ∙ append_assoc us (f x ∷ []) (f y ∷ [])

pub joined : {X Y : Type 0} (f : X → Y) (xs ys zs ws front rest all : List X)
    (xs' ys' zs' ws' : List Y) → front ≡ xs ++ ys → rest ≡ zs ++ ws → all ≡ front ++ rest
    → map f xs ≡ xs' → map f ys ≡ ys' → map f zs ≡ zs' → map f ws ≡ ws'
    → map f all ≡ xs' ++ (ys' ++ (zs' ++ ws'))
joined f xs ys zs ws front rest all xs' ys' zs' ws' f_is r_is a_is x_is y_is z_is w_is =
    ap (map f) a_is ∙ map-append f front rest
    ∙ (λ i. (ap (map f) f_is ∙ map-append f xs ys) i ++ (ap (map f) r_is ∙ map-append f zs ws) i)
    ∙ (λ i. (x_is i ++ y_is i) ++ (z_is i ++ w_is i))
    ∙ append_assoc xs' ys' (zs' ++ ws')

pub joined_length : {X Y Z : Type 0} (f : X → Y) (g : Z → Y) (zs ws rest : List X)
    (from : List Z) (ws' : List Y) → rest ≡ zs ++ ws → map f zs ≡ map g from → map f ws ≡ ws'
    → length rest ≡ length from + length ws'
joined_length f g zs ws rest from ws' r_is z_is w_is =
    ap length r_is ∙ length-append zs ws
    ∙ (λ i. (sym (length-map zs f) ∙ ap length z_is ∙ length-map from g) i
    + (sym (length-map ws f) ∙ ap length w_is) i)
