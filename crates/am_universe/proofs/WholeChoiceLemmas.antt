-- Choices that are admitted, position by position.
use Rattle.std.proofs.Common.{◌≡◌, ℕ, zero, suc, ◌<◌, ◌≤◌, true, List, [], ◌∷◌, length, slice_index, nat_lt, refl, arith}
use borrow.Author.Tests.{lt-ltb}
use Rattle.std.proofs.lemmas.Bool.{and_parts, and_from}
use Rattle.std.proofs.lemmas.Bool.Decides.{nat_tests}
use Rattle.am_universe.specs.Choice.{admits}

pub admitted_at : (ns c : List ℕ) (i : ℕ) → admits ns c ≡ true → i < length c → slice_index c i < slice_index ns i
admitted_at ns [] i h k = absurd (omega arith)
admitted_at [] (p ∷ c) i h k = cc
admitted_at (n ∷ ns) (p ∷ c) zero h k = let below = (and_parts (nat_lt p n) (admits ns c) h).0 in grind (arith, nat_tests)
admitted_at (n ∷ ns) (p ∷ c) (suc i) h k = admitted_at ns c i (and_parts (nat_lt p n) (admits ns c) h).1 (omega arith)

-- an admitted choice has no more positions than there are labels
pub admits_at_most : (ns c : List ℕ) → admits ns c ≡ true → length c ≤ length ns
admits_at_most ns [] a = omega arith
admits_at_most [] (p ∷ c) a = cc
admits_at_most (n ∷ ns) (p ∷ c) a = omega (arith, admits_at_most ns c (and_parts (nat_lt p n) (admits ns c) a).1)

-- a choice is admitted if it is no longer, and each of its positions is below the size of its label
pub admits_each : (ns c : List ℕ) → length c ≤ length ns → ((k : ℕ) → k < length c → slice_index c k < slice_index ns k) → admits ns c ≡ true
admits_each ns [] long each = refl
admits_each [] (p ∷ c) long each = absurd (omega arith)
admits_each (n ∷ ns) (p ∷ c) long each =
    and_from (nat_lt p n) (admits ns c) (lt-ltb p n (each 0 (omega arith))) (admits_each ns c (omega arith) (λ k h. each (suc k) (omega arith)))
