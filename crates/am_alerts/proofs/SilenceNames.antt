-- The names of the silences that hide an alert.
use Rattle.std.proofs.Common.{◌≡◌, ◌<◌, ◌+◌, ◌∷◌, [], ℕ, List, Bool, true, false, Option, length, map, refl, arith, if◌then◌else◌}
use Rattle.am_universe.specs.LabelSet.{LabelMap}
use Rattle.am_eval.specs.World.{World}
use Rattle.am_eval.specs.Silencing.{hides, positions_where, silencers}
use Rattle.am_alerts.specs.SilenceIds.{called, name_at, AreNames}

-- two functions that agree at each position give the same list
same_map : {A B : Type 0} (f g : ℕ → B) (test : A → Bool) (from n : ℕ) (xs : List A)
    → from + length xs ≡ n → ((i : ℕ) → i < n → f i ≡ g i)
    → map f (positions_where test from xs) ≡ map g (positions_where test from xs)
same_map f g test from n [] count same = refl
same_map f g test from n (x ∷ xs) count same =
    let rest = same_map f g test (from + 1) n xs (omega (arith, count)) same in
    by (test x) rest
  where
    by : (b : Bool) → map f (positions_where test (from + 1) xs) ≡ map g (positions_where test (from + 1) xs)
        → map f (if b then from ∷ positions_where test (from + 1) xs else positions_where test (from + 1) xs)
        ≡ map g (if b then from ∷ positions_where test (from + 1) xs else positions_where test (from + 1) xs)
    by true rest = λ j. same from (omega (arith, count)) j ∷ rest j
    by false rest = rest

pub names_are : (w : World) (s : LabelMap) (ids : List (Option (List ℕ))) (names : List (List ℕ))
    → AreNames ids (length w.silences) names
    → map (name_at names) (silencers w s) ≡ map (called ids) (silencers w s)
names_are w s ids names are =
    same_map (name_at names) (called ids) (hides w s) 0 (length w.silences) w.silences
    (omega arith) are
