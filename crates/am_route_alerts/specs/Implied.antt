-- Literals that follow from others. A parameter says which choices count.
use Rattle.std.specs.Prelude.{◌≡◌, ◌≤◌, ℕ, zero, suc, List, [], ◌∷◌, not, Some, slice_get, IsTrue}
use Rattle.am_first_sets.specs.declared.candidate.Candidate.{Candidate}
use Rattle.am_first_sets.specs.Literals.{meets, IsMet}

-- The same literals, except that the one at a position asks for the opposite.
abbrev pub negated : ℕ → List Candidate → List Candidate
negated i [] = []
negated zero (k ∷ ks) = record k { wanted = not k.wanted } ∷ ks
negated (suc i) (k ∷ ks) = k ∷ negated i ks

-- Each choice that counts meets the named literals of two lists, or of neither.
abbrev pub IsSameFor : (List ℕ → Type 0) → List Candidate → List Candidate → Type 0
IsSameFor Is old new = (c : List ℕ) → Is c → meets c new ≡ meets c old

-- Each named literal from a position on is needed: some choice that counts fails it and meets the
-- other named ones.
-- Source: own choice; logic says that the literal is independent of the others.
-- Example: of `team=~"db|web"` and `team="db"` the first is not needed.
abbrev pub IsEachNeeded : (List ℕ → Type 0) → ℕ → List Candidate → Type 0
IsEachNeeded Is from ks =
    (i : ℕ) (k : Candidate) → slice_get ks i ≡ Some k → from ≤ i → IsTrue k.named
    → IsMet Is (negated i ks)
