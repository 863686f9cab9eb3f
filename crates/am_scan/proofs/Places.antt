-- The element at a position of a list: in a longer list, in a prefix, and among all elements.
use Rattle.std.proofs.Common.{◌≡◌, Bool, ℕ, zero, suc, ◌+◌, ◌<◌, List, [], ◌∷◌, ◌++◌, Some, slice_get, length, map, take, get_or, Contains, ◌⊎◌, inl, inr, refl, ap, subst, sym, ◌∙◌, arith}
use Rattle.std.specs.List.{AllByRecursion, list_any}
use Rattle.std.proofs.lemmas.Bool.{cond_both}
use Rattle.indexmap.specs.IndexSet.{insert_key}
use Rattle.std.proofs.lemmas.List.{take_more, take_all, map-append}
use Rattle.std.proofs.lemmas.Option.{get_or_from_slice_get, slice_get_within, same_Some}
use Rattle.std.proofs.lemmas.Grind.{common_steps}
use Rattle.am_scan.specs.Automaton.{Grows}

-- The element at a position of two joined lists is from the first list or from the second.
pub get_append : {X : Type 0} (xs ys : List X) (x : X) (k : ℕ) → slice_get (xs ++ ys) k ≡ Some x
    → (slice_get xs k ≡ Some x) ⊎ ((m : ℕ) × (k ≡ length xs + m) × (slice_get ys m ≡ Some x))
get_append [] ys x k e = inr (k, omega arith, e)
get_append (z ∷ xs) ys x zero e = inl e
get_append (z ∷ xs) ys x (suc k) e = grind (arith, common_steps, get_append xs ys x k e)

-- The element at a position of a list with one more element is from the list, or is the last.
pub get_pushed : {X : Type 0} (xs : List X) (y x : X) (k : ℕ) → slice_get (xs ++ y ∷ []) k ≡ Some x
    → (slice_get xs k ≡ Some x) ⊎ ((k ≡ length xs) × (y ≡ x))
get_pushed [] y x zero e = inr (refl, same_Some y x e)
get_pushed [] y x (suc k) e = absurd cc
get_pushed (z ∷ xs) y x zero e = inl e
get_pushed (z ∷ xs) y x (suc k) e = grind (arith, common_steps, get_pushed xs y x k e)

-- An element stays at its position when elements are added after it.
pub get_kept : {X : Type 0} (xs ys : List X) (x : X) (k : ℕ) → slice_get xs k ≡ Some x
    → slice_get (xs ++ ys) k ≡ Some x
get_kept [] ys x k e = absurd cc
get_kept (z ∷ xs) ys x zero e = e
get_kept (z ∷ xs) ys x (suc k) e = get_kept xs ys x k e

-- An element moves up by the length of a list that is put before it.
pub get_behind : {X : Type 0} (xs ys : List X) (x : X) (k : ℕ) → slice_get ys k ≡ Some x
    → slice_get (xs ++ ys) (length xs + k) ≡ Some x
get_behind [] ys x k e = let same : 0 + k ≡ k = omega arith in rw same e
get_behind (z ∷ xs) ys x k e = grind (arith, common_steps, get_behind xs ys x k e)

-- The position of an added element is the number of the elements before it.
pub get_last : {X : Type 0} (xs : List X) (y : X) → slice_get (xs ++ y ∷ []) (length xs) ≡ Some y
get_last [] y = refl
get_last (x ∷ xs) y = get_last xs y

-- The prefix of full length has the same element at each position as the list.
pub get_whole : {X : Type 0} (xs : List X) (n k : ℕ) (x : X) → n ≡ length xs
    → slice_get xs k ≡ Some x → slice_get (take n xs) k ≡ Some x
get_whole xs n k x all e = subst (λ zs. slice_get zs k ≡ Some x) (sym (take_all n xs (omega (arith, all)))) e

-- What is at a position of a list is an element of it.
pub contains_from_get : {X : Type 0} (xs : List X) (x : X) (k : ℕ) → slice_get xs k ≡ Some x
    → Contains xs x
contains_from_get xs x k e = (k, slice_get_within xs k x e, get_or_from_slice_get xs k x x e)

-- What holds at each position holds for all elements.
pub all_from_places : {X : Type 0} (P : X → Type 0) (xs : List X)
    → ((k : ℕ) (x : X) → slice_get xs k ≡ Some x → P x) → AllByRecursion P xs
all_from_places P [] h = tt
all_from_places P (x ∷ xs) h = (h 0 x refl, all_from_places P xs (λ k y e. h (suc k) y e))

-- What holds for all elements holds at each position.
pub all_at_place : {X : Type 0} (P : X → Type 0) (xs : List X) (k : ℕ) (x : X)
    → AllByRecursion P xs → slice_get xs k ≡ Some x → P x
all_at_place P [] k x h e = absurd cc
all_at_place P (y ∷ xs) zero x h e = subst P (same_Some y x e) h.0
all_at_place P (y ∷ xs) (suc k) x h e = all_at_place P xs k x h.1 e

-- A prefix that is one longer has one more element at its end, also under a function.
pub map_front : {X Y : Type 0} (f : X → Y) (xs : List X) (i : ℕ) (y : X) → i < length xs
    → y ≡ get_or xs i y → map f (take (i + 1) xs) ≡ map f (take i xs) ++ f y ∷ []
map_front f xs i y below is = grind (arith, common_steps, take_more, map-append)

-- Functions that agree on the element at each position give the same list.
pub map_same : {X Y : Type 0} (f g : X → Y) (xs : List X)
    → ((k : ℕ) (x : X) → slice_get xs k ≡ Some x → f x ≡ g x) → map f xs ≡ map g xs
map_same f g [] h = refl
map_same f g (x ∷ xs) h = let here = h 0 x refl in let rest = map_same f g xs (λ k y e. h (suc k) y e) in cc

-- One more element is one more result of a function.
pub map_pushed : {X Y : Type 0} (f : X → Y) (xs all : List X) (x : X) (y : Y) → all ≡ xs ++ x ∷ []
    → f x ≡ y → map f all ≡ map f xs ++ y ∷ []
map_pushed f xs all x y is e = grind (arith, common_steps, map-append)

-- A list has an element at each position below its length.
pub get_within : {X : Type 0} (xs : List X) (k : ℕ) → k < length xs
    → (x : X) × (slice_get xs k ≡ Some x)
get_within [] k h = absurd (omega arith)
get_within (x ∷ xs) zero h = (x, refl)
get_within (x ∷ xs) (suc k) h = get_within xs k (omega arith)

-- A prefix that is one longer has one more element at its end.
pub take_front : {X : Type 0} (xs : List X) (i : ℕ) (y : X) → i < length xs → y ≡ get_or xs i y
    → take (i + 1) xs ≡ take i xs ++ y ∷ []
take_front xs i y below is = take_more xs i y below ∙ ap (λ z. take i xs ++ z ∷ []) (sym is)

-- A relation between the elements of two lists of one length holds with one more element in each.
pub each_pushed : {X Y : Type 0} (R : X → Y → Type 0) (xs : List X) (ys : List Y) (x : X) (y : Y) → length xs ≡ length ys
    → ((k : ℕ) (a : X) (b : Y) → slice_get xs k ≡ Some a → slice_get ys k ≡ Some b → R a b) → R x y
    → (k : ℕ) (a : X) (b : Y) → slice_get (xs ++ x ∷ []) k ≡ Some a → slice_get (ys ++ y ∷ []) k ≡ Some b → R a b
each_pushed R xs ys x y len each last k a b at also = grind (arith, common_steps, get_pushed, slice_get_within)

-- A list grows by one more element.
pub grows_pushed : {X : Type 0} (old new : List X) (x : X) → new ≡ old ++ x ∷ [] → Grows old new
grows_pushed old new x is = λ k y at.
    subst (λ xs. slice_get xs k ≡ Some y) (sym is) (get_kept old (x ∷ []) y k at)

-- A position that was within a list that grew still is.
pub grows_within : {X : Type 0} (old new : List X) (k : ℕ) → Grows old new → k < length old
    → k < length new
grows_within old new k grows h =
    let there = get_within old k h in slice_get_within new k there.0 (grows k there.0 there.1)

-- The element at a position that was within the list was there before.
pub grown_back : {X : Type 0} (old new : List X) (k : ℕ) (x : X) → Grows old new → k < length old
    → slice_get new k ≡ Some x → slice_get old k ≡ Some x
grown_back old new k x grows h at =
    let there = get_within old k h in there.1 ∙ sym (grows k there.0 there.1) ∙ at

-- Rows of the first elements of a list stay so when the list grows, with one more row.
pub rows_pushed : {X Y : Type 0} (R : X → Y → Type 0) (old new : List X) (rows all : List Y) (row : Y) → Grows old new → length rows < length old → all ≡ rows ++ row ∷ []
    → ((k : ℕ) (x : X) (y : Y) → slice_get old k ≡ Some x → slice_get rows k ≡ Some y → R x y) → ((x : X) → slice_get old (length rows) ≡ Some x → R x row)
    → (k : ℕ) (x : X) (y : Y) → slice_get new k ≡ Some x → slice_get all k ≡ Some y → R x y
rows_pushed R old new rows all row grows below is each last k x y here there =
    elim (get_pushed rows row y k (subst (λ ys. slice_get ys k ≡ Some y) is there)) [
      | inl before ↦ each k x y (grown_back old new k x grows (omega (arith, slice_get_within rows k y before)) here) before
      | inr end ↦ subst (R x) end.1 (last x (grown_back old new (length rows) x grows below (subst (λ i. slice_get new i ≡ Some x) end.0 here)))
    ]

-- A set keeps its elements in their places when one is inserted.
pub grows_inserted : {X : Type 0} (eq : X → X → Bool) (old new : List X) (x : X) → new ≡ insert_key eq old x → Grows old new
grows_inserted eq old new x is =
    subst (Grows old) (sym is) (cond_both (list_any (eq x) old) old (old ++ x ∷ []) (Grows old) (λ _ k y at. at) (λ _. grows_pushed old _ x refl))
