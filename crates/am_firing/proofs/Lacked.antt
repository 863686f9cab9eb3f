-- The labels that an alert lacks, with one more of some names.
use Rattle.std.proofs.Common.{◌≡◌, ◌+◌, ℕ, zero, suc, map, List, [], ◌∷◌, take, Some, Bool, true, false, fold, ap, sym, ◌∙◌, refl}
use Rattle.std.specs.Prelude.{slice_get}
use Rattle.std.specs.List.{filter}
use Rattle.std.proofs.lemmas.List.Elements.{filter-append}
use Rattle.std.proofs.lemmas.List.Sums.{fold-append}
use Rattle.am_report_texts.specs.EachOnce.{with_text, each_once}
use Rattle.am_firing.proofs.Inhibiting.{one_longer}

pub got_map : {A B : Type 0} (f : A → B) (xs : List A) (i : ℕ) (x : A) → slice_get xs i ≡ Some x
    → slice_get (map f xs) i ≡ Some (f x)
got_map f [] i x at = absurd (cc)
got_map f (y ∷ xs) zero x at = let is : y ≡ x = cc in ap (λ z. Some (f z)) is
got_map f (y ∷ xs) (suc i) x at = got_map f xs i x at

module _ (test : List ℕ → Bool) (names : List (List ℕ)) (i : ℕ) (name : List ℕ)
    (at : slice_get names i ≡ Some name) where
  lacked_more : each_once (filter test (take (i + 1) names))
      ≡ fold with_text (each_once (filter test (take i names))) (filter test (name ∷ []))
  lacked_more =
      ap (λ ns. each_once (filter test ns)) (one_longer names i name at)
      ∙ ap each_once (filter-append test (take i names) (name ∷ []))
      ∙ fold-append with_text [] (filter test (take i names)) (filter test (name ∷ []))

  pub lacks_one : (old new : List (List ℕ)) → test name ≡ true
      → old ≡ each_once (filter test (take i names)) → new ≡ with_text old name
      → new ≡ each_once (filter test (take (i + 1) names))
  lacks_one old new passes so_far put =
      put ∙ ap (λ ns. with_text ns name) so_far ∙ sym (lacked_more ∙ rw passes refl)

  pub lacks_none : (old new : List (List ℕ)) → test name ≡ false
      → old ≡ each_once (filter test (take i names)) → new ≡ old
      → new ≡ each_once (filter test (take (i + 1) names))
  lacks_none old new fails so_far same = same ∙ so_far ∙ sym (lacked_more ∙ rw fails refl)
