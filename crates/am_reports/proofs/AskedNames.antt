-- The receivers that are asked about, if no names are given, and if some are.
use Rattle.std.proofs.Common.{◌≡◌, ◌==◌, ℕ, List, [], ◌∷◌, map, length, true, false, Option, Some, None}
use Rattle.std.proofs.Common.{Bor, arith}
use Rattle.std.proofs.lemmas.Bool.Decides.{nat_tests}
use Rattle.am_config.specs.ConfigFile.{Configuration}
use Rattle.am_reports.specs.AskedReceivers.{ArePositions, AreAsked}

pub none_asked : (c : Configuration) (names : List (Bor (List ℕ))) (asked : Option (List ℕ))
    → true ≡ (length names == 0) → asked ≡ None → AreAsked c (map (λ name. name.now) names) asked
none_asked c [] asked none is = is
none_asked c (name ∷ names) asked none is = absurd (grind (arith, nat_tests))

pub some_asked : (c : Configuration) (names : List (Bor (List ℕ))) (asked : Option (List ℕ))
    (positions : List ℕ) → false ≡ (length names == 0)
    → ArePositions c (map (λ name. name.now) names) positions → asked ≡ Some positions
    → AreAsked c (map (λ name. name.now) names) asked
some_asked c [] asked positions some are is = absurd (grind (arith, nat_tests))
some_asked c (name ∷ names) asked positions some are is = (positions, are, is)
