-- A list that is not empty exactly if a test is true.
use Rattle.std.proofs.Common.{◌≡◌, ◌≢◌, ◌↔◌, List, [], ◌∷◌, Bool, true, false, not, length, refl, arith}
use Rattle.std.specs.Prelude.{◌==◌, IsTrue}
use Rattle.std.proofs.lemmas.Bool.{false≢true}
use Rattle.std.proofs.lemmas.Bool.Decides.{nat_tests}

pub has_some : {X : Type 0} (b : Bool) (xs : List X) → (IsTrue b ↔ (xs ≢ []))
    → not (length xs == 0) ≡ b
has_some true [] h = absurd (h.0 refl refl)
has_some false [] h = refl
has_some true (x ∷ xs) h = grind (arith, nat_tests)
has_some false (x ∷ xs) h = absurd (false≢true (h.1 (λ e. absurd cc)))
