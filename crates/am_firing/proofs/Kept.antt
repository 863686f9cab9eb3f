-- The lines of the items that pass a test, with one more item.
use Rattle.std.proofs.Common.{◌≡◌, List, [], ◌∷◌, ◌++◌, map}
use Rattle.std.proofs.Common.{Bool, true, false, ◌∙◌, append_assoc}
use Rattle.std.specs.List.{filter}
use Rattle.std.proofs.lemmas.List.{append-nil, map-append}
use Rattle.std.proofs.lemmas.List.Elements.{filter-append}

module _ {A L : Type 0} (line : A → L) (test : A → Bool) (xs : List A) (x : A) where
  pub one_kept : (before now next : List L) → now ≡ before ++ map line (filter test xs)
      → test x ≡ true → next ≡ now ++ line x ∷ []
      → next ≡ before ++ map line (filter test (xs ++ x ∷ []))
  one_kept before now next so_far passes put =
      rw (filter-append test xs (x ∷ []), passes, map-append line (filter test xs) (x ∷ []), put, so_far)
      (append_assoc before (map line (filter test xs)) (line x ∷ []))

  pub none_kept : (before now next : List L) → now ≡ before ++ map line (filter test xs)
      → test x ≡ false → next ≡ now → next ≡ before ++ map line (filter test (xs ++ x ∷ []))
  none_kept before now next so_far fails same =
      rw (filter-append test xs (x ∷ []), fails, append-nil (filter test xs)) (same ∙ so_far)
