-- What was found about a universe is what the text says.
use Rattle.std.proofs.Common.{Option, Some, None, is_some, refl, ◌≡◌, ◌↔◌, Bool}
use Rattle.std.proofs.Common.{true, false, not}

-- nothing was found exactly if the answer says so
pub none_told : {X : Type 0} (found : Option X) (none : Bool) → is_some found ≡ not none
    → found ≡ None ↔ none ≡ true
none_told None true e = (λ n. refl, λ n. refl)
none_told None false e = cc
none_told (Some x) true e = cc
none_told (Some x) false e = (λ n. cc, λ n. cc)
