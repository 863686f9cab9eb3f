-- The first of some positions is not marked, so not all of them are.
use Rattle.std.proofs.Common.{◌≡◌, ℕ, List, [], ◌∷◌, Bool, false, get_or, Some, None, refl}
use Rattle.std.specs.Prelude.{slice_get}
use Rattle.am_firing.specs.Going.{are_all_marked}

pub no_first : (marks : List Bool) (positions : List ℕ) → slice_get positions 0 ≡ None
    → are_all_marked marks positions ≡ false
no_first marks [] none = refl
no_first marks (i ∷ positions) none = absurd (cc)

pub first_unmarked : (marks : List Bool) (positions : List ℕ) (first : ℕ)
    → slice_get positions 0 ≡ Some first → get_or marks first false ≡ false
    → are_all_marked marks positions ≡ false
first_unmarked marks [] first at fails = absurd (cc)
first_unmarked marks (i ∷ positions) first at fails =
    let same : i ≡ first = cc in
    rw (same, fails) refl
