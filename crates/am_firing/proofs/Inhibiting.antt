-- What decides whether an alert inhibits another by a rule, and how many it inhibits.
use Rattle.std.proofs.Common.{◌≡◌, ◌+◌, ℕ, List, [], ◌∷◌, ◌++◌, Bool, true, false, ◌&&◌, map}
use Rattle.std.proofs.Common.{take, get_or, length, Some, count_by, cond, refl, ap, sym, ◌∙◌, arith}
use Rattle.std.specs.Prelude.{slice_get}
use Rattle.std.specs.List.{list_all}
use Rattle.std.proofs.lemmas.List.{take_more, get_or-map, length-map}
use Rattle.std.proofs.lemmas.List.Sums.{sum_by-append}
use Rattle.std.proofs.lemmas.Option.{get_or_from_slice_get, slice_get_within}
use Rattle.am_universe.specs.Text.{same_text}
use lib.Pointwise.{pointwise}

-- ---- Reading a list that is made from another.

pub read_at : {A B : Type 0} (f : A → B) (xs : List A) (ys : List B) (k : ℕ) (x : A) (y : B)
    → ys ≡ map f xs → slice_get xs k ≡ Some x → y ≡ get_or ys k y → y ≡ f x
read_at f xs ys k x y all at here =
    here ∙ ap (λ zs. get_or zs k y) all ∙ get_or-map f xs k x y (slice_get_within xs k x at)
    ∙ ap f (get_or_from_slice_get xs k x x at)

pub read_view : {V A B : Type 0} (view : V → B) (f : A → B) (xs : List A) (vs : List V) (k : ℕ)
    (x : A) (v : V) → map view vs ≡ map f xs → slice_get xs k ≡ Some x → v ≡ get_or vs k v
    → view v ≡ f x
read_view view f xs vs k x v all at here =
    let within = slice_get_within xs k x at in
    let long : length vs ≡ length xs = sym (length-map vs view) ∙ ap length all ∙ length-map xs f in
    read_at f xs (map view vs) k x (view v) all at
    (ap view here ∙ sym (get_or-map view vs k v (view v) (omega arith)))

-- ---- One more alert.

pub one_longer : {A : Type 0} (xs : List A) (i : ℕ) (x : A) → slice_get xs i ≡ Some x
    → take (i + 1) xs ≡ take i xs ++ x ∷ []
one_longer xs i x at =
    take_more xs i x (slice_get_within xs i x at)
    ∙ ap (λ y. take i xs ++ y ∷ []) (get_or_from_slice_get xs i x x at)

pub counted_yes : {A : Type 0} (test : A → Bool) (xs : List A) (i : ℕ) (x : A) (old new : ℕ)
    → slice_get xs i ≡ Some x → test x ≡ true → old ≡ count_by test (take i xs) → new ≡ old + 1
    → new ≡ count_by test (take (i + 1) xs)
counted_yes test xs i x old new at passes so_far more =
    rw (one_longer xs i x at, sum_by-append (λ y. cond (test y) 1 0) (take i xs) (x ∷ []), passes) (omega arith)

pub counted_no : {A : Type 0} (test : A → Bool) (xs : List A) (i : ℕ) (x : A) (old new : ℕ)
    → slice_get xs i ≡ Some x → test x ≡ false → old ≡ count_by test (take i xs) → new ≡ old
    → new ≡ count_by test (take (i + 1) xs)
counted_no test xs i x old new at fails so_far more =
    rw (one_longer xs i x at, sum_by-append (λ y. cond (test y) 1 0) (take i xs) (x ∷ []), fails) (omega arith)

pub counted_none : {A : Type 0} (test : A → Bool) → ((x : A) → test x ≡ false) → (xs : List A)
    → 0 ≡ count_by test xs
counted_none test none [] = refl
counted_none test none (x ∷ xs) = rw (none x) (counted_none test none xs)

-- ---- The tests.

-- equal values, label by label
pub equal_by_name : (f g : List ℕ → List ℕ) (names : List (List ℕ))
    → list_all (λ name. same_text (f name) (g name)) names
    ≡ pointwise same_text (map f names) (map g names)
equal_by_name f g [] = refl
equal_by_name f g (name ∷ names) =
    ap (λ b. same_text (f name) (g name) && b) (equal_by_name f g names)

-- texts that are compared where they are in memory
pub compared_now : {A B : Type 0} (now : A → B) (same : B → B → Bool) (xs ys : List A)
    → pointwise (λ x y. same (now x) (now y)) xs ys ≡ pointwise same (map now xs) (map now ys)
compared_now now same [] [] = refl
compared_now now same [] (y ∷ ys) = refl
compared_now now same (x ∷ xs) [] = refl
compared_now now same (x ∷ xs) (y ∷ ys) =
    ap (λ b. same (now x) (now y) && b) (compared_now now same xs ys)
