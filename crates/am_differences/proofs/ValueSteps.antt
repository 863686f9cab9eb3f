-- Two arrays or objects, item by item.
use Rattle.std.proofs.Common.{◌≡◌, ◌≢◌, ◌<◌, ◌≤◌, ◌+◌, ◌&&◌, ℕ, suc, List, [], ◌∷◌, length}
use Rattle.std.proofs.Common.{get_or, drop, true, false, refl, sym, ap, ◌∙◌}
use Rattle.std.proofs.lemmas.List.{at_drop_more, drop_all}
use Rattle.serde_json.specs.View.{view, items_view}
use Rattle.serde_json.specs.declared.value.Value.{Value}
use Rattle.am_differences.specs.SameValue.{same_value, same_items}

-- ---- Arrays.

-- the items from a position on are the same exactly if all items are
abbrev pub SameFrom : List Value → List Value → ℕ → Type 0
SameFrom ones others i =
    same_items (items_view (drop i ones)) (items_view (drop i others))
    ≡ same_items (items_view ones) (items_view others)

one_item : (ones others : List Value) (i : ℕ) (a b : Value) → i < length ones → i < length others
    → a ≡ get_or ones i a → b ≡ get_or others i b
    → same_items (items_view (drop i ones)) (items_view (drop i others))
    ≡ (same_value (view a) (view b)
    && same_items (items_view (drop (i + 1) ones)) (items_view (drop (i + 1) others)))
one_item ones others i a b within inside at also =
    let left = drop (i + 1) ones in
    let right = drop (i + 1) others in
    at_drop_more (λ l. same_items (items_view l) (items_view (drop i others))) ones i a within
    ∙ at_drop_more (λ l. same_items (items_view (get_or ones i a ∷ left)) (items_view l)) others i b
    inside
    ∙ (λ j. same_items (items_view (sym at j ∷ left)) (items_view (sym also j ∷ right)))

pub item_differs : (ones others : List Value) (i : ℕ) (a b : Value) → i < length ones
    → i < length others → a ≡ get_or ones i a → b ≡ get_or others i b → SameFrom ones others i
    → same_value (view a) (view b) ≡ false
    → false ≡ same_items (items_view ones) (items_view others)
item_differs ones others i a b within inside at also before differ =
    sym (one_item ones others i a b within inside at also
    ∙ ap (λ s. s && same_items (items_view (drop (i + 1) ones))
    (items_view (drop (i + 1) others))) differ) ∙ before

pub item_same : (ones others : List Value) (i : ℕ) (a b : Value) → i < length ones
    → i < length others → a ≡ get_or ones i a → b ≡ get_or others i b → SameFrom ones others i
    → same_value (view a) (view b) ≡ true → SameFrom ones others (i + 1)
item_same ones others i a b within inside at also before same =
    sym (one_item ones others i a b within inside at also
    ∙ ap (λ s. s && same_items (items_view (drop (i + 1) ones))
    (items_view (drop (i + 1) others))) same) ∙ before

pub items_same : (ones others : List Value) (i : ℕ) → length ones ≤ i → length others ≤ i
    → SameFrom ones others i → true ≡ same_items (items_view ones) (items_view others)
items_same ones others i all also before =
    sym (λ j. same_items (items_view (drop_all i ones all j)) (items_view (drop_all i others also j)))
    ∙ before

pub other_length : (ones others : List Value) → length ones ≢ length others
    → false ≡ same_items (items_view ones) (items_view others)
other_length [] [] other = absurd (other refl)
other_length [] (b ∷ others) other = refl
other_length (a ∷ ones) [] other = refl
other_length (a ∷ ones) (b ∷ others) other =
    by (same_value (view a) (view b)) (other_length ones others (λ e. other (ap suc e)))
  where
    by : (s : _) → false ≡ same_items (items_view ones) (items_view others)
        → false ≡ (s && same_items (items_view ones) (items_view others))
    by true rest = rest
    by false rest = refl
