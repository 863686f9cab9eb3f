-- Two lists whose items belong together, position by position.
use Rattle.std.proofs.Common.{◌≡◌, ℕ, zero, suc, ◌+◌, List, [], ◌∷◌, ◌++◌, Bool, true, false, cond}
use Rattle.std.proofs.Common.{map, take, drop, Some, slice_get, append-nil, ap, sym, ◌∙◌, subst}
use Rattle.std.specs.List.{AllZip, filter}
use Rattle.std.proofs.lemmas.List.Elements.{filter-append}
use Rattle.std.proofs.lemmas.Slice.Zip.{all_zipped_more}
use Rattle.am_complete.proofs.Pushed.{one_longer}

pub zip_through : {X Y Z : Type 0} (R : X → Y → Type 0) (S : Y → Z → Type 0) (T : X → Z → Type 0)
    (xs : List X) (ys : List Y) (zs : List Z) → ((x : X) (y : Y) (z : Z) → R x y → S y z → T x z)
    → AllZip R xs ys → AllZip S ys zs → AllZip T xs zs
zip_through R S T [] [] [] so all more = tt
zip_through R S T (x ∷ xs) (y ∷ ys) (z ∷ zs) so all more =
    (so x y z all.0 more.0, zip_through R S T xs ys zs so all.1 more.1)
zip_through R S T [] (y ∷ ys) zs so all more = absurd all
zip_through R S T (x ∷ xs) [] zs so all more = absurd all
zip_through R S T xs (y ∷ ys) [] so all more = absurd more
zip_through R S T xs [] (z ∷ zs) so all more = absurd more

pub zip_joined : {X Y : Type 0} (R : X → Y → Type 0) (xs vs : List X) (ys ws : List Y)
    → AllZip R xs ys → AllZip R vs ws → AllZip R (xs ++ vs) (ys ++ ws)
zip_joined R [] vs [] ws all more = more
zip_joined R (x ∷ xs) vs (y ∷ ys) ws all more = (all.0, zip_joined R xs vs ys ws all.1 more)
zip_joined R xs vs ys ws all more = absurd all

-- what holds item by item does of the first items, and of the others
pub zip_cut : {X Y : Type 0} (R : X → Y → Type 0) (n : ℕ) (xs : List X) (ys : List Y)
    → AllZip R xs ys → AllZip R (take n xs) (take n ys) × AllZip R (drop n xs) (drop n ys)
zip_cut R zero xs ys all = (tt, all)
zip_cut R (suc n) [] [] all = (tt, tt)
zip_cut R (suc n) (x ∷ xs) (y ∷ ys) all =
    let r = zip_cut R n xs ys all.1 in ((all.0, r.0), r.1)
zip_cut R (suc n) xs ys all = absurd all

-- the items that pass two tests which agree
pub zip_kept : {X Y : Type 0} (R : X → Y → Type 0) (f : X → Bool) (g : Y → Bool)
    → ((x : X) (y : Y) → R x y → f x ≡ g y) → (xs : List X) (ys : List Y) → AllZip R xs ys
    → AllZip R (filter f xs) (filter g ys)
zip_kept R f g agree [] [] all = tt
zip_kept R f g agree (x ∷ xs) (y ∷ ys) all =
    one (f x) (g y) (agree x y all.0) all.0 (zip_kept R f g agree xs ys all.1)
  where
    one : (a b : Bool) → a ≡ b → R x y → AllZip R (filter f xs) (filter g ys)
        → AllZip R (cond a (x ∷ filter f xs) (filter f xs)) (cond b (y ∷ filter g ys) (filter g ys))
    one true true e here rest = (here, rest)
    one false false e here rest = rest
    one a b e here rest = absurd (cc)
zip_kept R f g agree xs ys all = absurd all

-- two lists that have the same images
pub zip_from_images : {X Y Z : Type 0} (f : X → Z) (g : Y → Z) (xs : List X) (ys : List Y)
    → map f xs ≡ map g ys → AllZip (λ x y. f x ≡ g y) xs ys
zip_from_images f g [] [] same = tt
zip_from_images f g (x ∷ xs) (y ∷ ys) same = (cc, zip_from_images f g xs ys (cc))
zip_from_images f g [] (y ∷ ys) same = absurd (cc)
zip_from_images f g (x ∷ xs) [] same = absurd (cc)

-- ---- The items of a list that pass a test, one after another.

next_kept : {X : Type 0} (test : X → Bool) (xs : List X) (i : ℕ) (x : X) → slice_get xs i ≡ Some x
    → filter test (take i xs) ++ cond (test x) (x ∷ []) [] ≡ filter test (take (i + 1) xs)
next_kept test xs i x at =
    sym (filter-append test (take i xs) (x ∷ [])) ∙ ap (filter test) (one_longer xs i x at)

-- the next one does not pass
pub zip_passed : {X Y : Type 0} (R : X → Y → Type 0) (test : X → Bool) (xs : List X) (i : ℕ) (x : X)
    (ys : List Y) → slice_get xs i ≡ Some x → test x ≡ false → AllZip R (filter test (take i xs)) ys
    → AllZip R (filter test (take (i + 1) xs)) ys
zip_passed R test xs i x ys at fails all =
    subst (λ (kept : List _). AllZip R kept ys)
    (sym (append-nil (filter test (take i xs)))
    ∙ ap (λ b. filter test (take i xs) ++ cond b (x ∷ []) []) (sym fails)
    ∙ next_kept test xs i x at) all

-- the next one passes
pub zip_taken : {X Y : Type 0} (R : X → Y → Type 0) (test : X → Bool) (xs : List X) (i : ℕ) (x : X)
    (ys : List Y) (y : Y) → slice_get xs i ≡ Some x → test x ≡ true → R x y
    → AllZip R (filter test (take i xs)) ys
    → AllZip R (filter test (take (i + 1) xs)) (ys ++ y ∷ [])
zip_taken R test xs i x ys y at passes here all =
    subst (λ (kept : List _). AllZip R kept (ys ++ y ∷ []))
    (ap (λ b. filter test (take i xs) ++ cond b (x ∷ []) []) (sym passes)
    ∙ next_kept test xs i x at)
    (all_zipped_more R (filter test (take i xs)) ys x y all here)
