-- Matchers that are among others.
use Rattle.std.proofs.Common.{◌≡◌, List, [], ◌∷◌, ◌++◌, Contains, refl, arith}
use Rattle.std.proofs.lemmas.Grind.{common_steps}
use Rattle.am_universe.proofs.ListLemmas.{IsIn, Contains-from_IsIn, IsIn-left, IsIn-right}
use Rattle.am_universe.proofs.ListLemmas.{IsIn-from_Contains, AllByRecursion-each}
use Rattle.am_labels.specs.Matcher.{Matcher}
use Rattle.am_complete.specs.Complete.{AreAmong}
use Rattle.am_complete.proofs.Alike.{is_among}

pub among_by : (ns ms : List Matcher) → ((m : Matcher) → IsIn ns m → IsIn ms m) → AreAmong ns ms
among_by ns ms each =
    AllByRecursion-each (Contains ms) ns (λ m i. Contains-from_IsIn ms m (each m i))

pub first_among : (ms ns : List Matcher) → AreAmong ms (ms ++ ns)
first_among ms ns = among_by ms (ms ++ ns) (λ m i. IsIn-left ms ns m i)

pub last_among : (ms ns : List Matcher) → AreAmong ns (ms ++ ns)
last_among ms ns = among_by ns (ms ++ ns) (λ m i. IsIn-right ms ns m i)

pub among_through : (ks ns ms : List Matcher) → AreAmong ks ns → AreAmong ns ms → AreAmong ks ms
among_through ks ns ms h k = grind (arith, common_steps, among_by, is_among)

pub among_none : (ns : List Matcher) → AreAmong ns [] → ns ≡ []
among_none [] h = refl
among_none (n ∷ ns) h = absurd (IsIn-from_Contains [] n h.0)
