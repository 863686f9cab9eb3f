-- Reasons: which of some literals are to blame if no choice meets all of them.
use Rattle.std.specs.Prelude.{◌≡◌, ◌<◌, ◌≤◌, ◌+◌, ℕ, zero, suc, List, [], ◌∷◌, Bool, true, false}
use Rattle.std.specs.Prelude.{not, ◌&&◌, ◌||◌, nat_lt, get_or, Some, slice_get, IsTrue}
use Rattle.std.specs.Prelude.{if◌then◌else◌, take}
use Rattle.std.specs.List.{AllZip}
use Rattle.am_first_sets.specs.declared.candidate.Candidate.{Candidate}
use Rattle.am_first_sets.specs.Literals.{IsMet, IsUnmet, hold_all}

-- Two lists have the same literals, whichever of them are named.
abbrev pub AreSameLiterals : List Candidate → List Candidate → Type 0
AreSameLiterals ks ls =
    AllZip (λ k l. (k.cube ≡ l.cube) × (k.wanted ≡ l.wanted) × (k.tag ≡ l.tag)) ks ls

-- The same literals, of which no others are named than before.
abbrev pub AreFewer : List Candidate → List Candidate → Type 0
AreFewer ks ls =
    AllZip (λ k l. (k.cube ≡ l.cube) × (k.wanted ≡ l.wanted) × (k.tag ≡ l.tag)
    × (IsTrue l.named → IsTrue k.named)) ks ls

-- The first `n` literals are named.
abbrev pub AreNamedBefore : ℕ → List Candidate → Type 0
AreNamedBefore n ks =
    (i : ℕ) (k : Candidate) → slice_get ks i ≡ Some k → i < n → IsTrue k.named

-- The same literals, except that the one at a position is named, or is not. `without` takes its
-- name off.
abbrev pub renamed : ℕ → Bool → List Candidate → List Candidate
renamed i name [] = []
renamed zero name (k ∷ ks) = record k { named = name } ∷ ks
renamed (suc i) name (k ∷ ks) = k ∷ renamed i name ks

abbrev pub without : ℕ → List Candidate → List Candidate
without i ks = renamed i false ks

-- The same literals, of which the first `n` are named, and the others are or not as before.
abbrev pub named_first : ℕ → List Candidate → List Candidate
named_first zero ks = ks
named_first (suc n) [] = []
named_first (suc n) (k ∷ ks) = record k { named = true } ∷ named_first n ks

-- Of the named literals that ask for no match, only the first `fixed` literals and those that are
-- marked stay named. Here `i` literals come before those of the list, and `n` is the position of
-- the next mark.
abbrev pub kept : ℕ → List Bool → ℕ → ℕ → List Candidate → List Candidate
kept fixed used i n [] = []
kept fixed used i n (k ∷ ks) =
    if k.named && not k.wanted
    then record k { named = nat_lt i fixed || get_or used n false }
    ∷ kept fixed used (i + 1) (n + 1) ks
    else k ∷ kept fixed used (i + 1) n ks

-- The named literals are a reason why no choice meets all literals. The first `fixed` literals are
-- among them. They are enough: no choice meets all of them. Each of them behind the first `fixed`
-- is needed: without it, some choice meets the rest. A parameter says which choices count.
-- Source: own choice; logic calls what is enough and needed in this way a minimal unsatisfiable
-- set.
-- Example: of `team="db"`, `env="prod"` and not `team=~"d.*"` the first and the third are a reason,
-- if `fixed` is 0. With the second they are not, because it is not needed.
pub record IsReason (Is : List ℕ → Type 0) (fixed : ℕ) (ks : List Candidate) : Type 0 where
  pub first : AreNamedBefore fixed ks
  pub enough : IsUnmet Is ks
  pub needed : (i : ℕ) (k : Candidate) → slice_get ks i ≡ Some k → fixed ≤ i → IsTrue k.named
      → IsMet Is (without i ks)

-- Some choice fails the literal at a position first: it meets all literals before that one, named
-- or not, and not that one. If none does, the literal is idle. Each named literal from a position
-- on is failed first by some choice.
-- Source: own choice.
-- Example: of not `team=~"d.*"` and not `team="db"` the second is idle.
abbrev pub FailsFirst : (List ℕ → Type 0) → ℕ → List Candidate → Type 0
FailsFirst Is i ks =
    (c : List ℕ) × Is c × (hold_all c (take i ks) ≡ true) × (hold_all c (take (i + 1) ks) ≡ false)

abbrev pub EachFailsFirst : (List ℕ → Type 0) → ℕ → List Candidate → Type 0
EachFailsFirst Is from ks =
    (i : ℕ) (k : Candidate) → slice_get ks i ≡ Some k → from ≤ i → IsTrue k.named
    → FailsFirst Is i ks
