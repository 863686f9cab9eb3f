-- The completions of a prefix: which they are, and the one whose other positions a function gives.
use Rattle.std.proofs.Common.{◌≡◌, ℕ, zero, suc, ◌<◌, ◌≤◌, Bool, true, List, [], ◌∷◌, ◌++◌, length, get_or, nat_eq, nat_lt, refl, ap, arith}
use Rattle.std.specs.List.{starts_with, AllByRecursion}
use Rattle.std.proofs.lemmas.Bool.{and_parts, and_from, eq-eqb, lt-ltb}
use Rattle.am_universe.specs.Choice.{admits}
use Rattle.am_universe.specs.Completions.{completions}
use Rattle.am_universe.proofs.ListLemmas.{IsIn, AllByRecursion-at, AllByRecursion-each}
use Rattle.am_search.proofs.VisitedPrefixes.{in_completions}
use Rattle.am_search.proofs.Walks.{completion_whole}

-- a choice begins with a prefix
abbrev pub begins : List ℕ → List ℕ → Bool
begins c prefix = starts_with nat_eq c prefix

-- a choice that begins with a longer prefix begins with the shorter one
begins_with_front : (c prefix more : List ℕ) → begins c (prefix ++ more) ≡ true
    → begins c prefix ≡ true
begins_with_front c [] more e = refl
begins_with_front [] (p ∷ prefix) more e = cc
begins_with_front (q ∷ c) (p ∷ prefix) more e =
    let parts = and_parts (nat_eq p q) (begins c (prefix ++ more)) e in
    and_from (nat_eq p q) (begins c prefix) parts.0 (begins_with_front c prefix more parts.1)

pub completion_of_front : (ns prefix more c : List ℕ) → IsIn (completions ns (prefix ++ more)) c
    → IsIn (completions ns prefix) c
completion_of_front ns prefix more c i =
    let r = completion_whole ns (prefix ++ more) c i in
    in_completions ns prefix c r.0 (begins_with_front c prefix more r.1)

-- what holds of each completion of a prefix holds of each completion of a longer prefix
pub each_completion : (P : List ℕ → Type 0) (ns prefix more : List ℕ)
    → AllByRecursion P (completions ns prefix) → AllByRecursion P (completions ns (prefix ++ more))
each_completion P ns prefix more all =
    AllByRecursion-each P (completions ns (prefix ++ more)) (λ c i.
    AllByRecursion-at P (completions ns prefix) c all (completion_of_front ns prefix more c i))

-- ---- Going on as a function says.

-- a function gives a position for each label, at which the label has a value
abbrev pub IsBelow : (ℕ → ℕ) → List ℕ → Type 0
IsBelow f ns = (i : ℕ) → i < length ns → f i < get_or ns i 0

pub completed : (ℕ → ℕ) → List ℕ → List ℕ → List ℕ
completed f [] prefix = []
completed f (n ∷ ns) [] = f 0 ∷ completed (λ i. f (suc i)) ns []
completed f (n ∷ ns) (p ∷ prefix) = p ∷ completed (λ i. f (suc i)) ns prefix

completed_length : (f : ℕ → ℕ) (ns prefix : List ℕ) → length (completed f ns prefix) ≡ length ns
unfolding completed
completed_length f [] prefix = refl
completed_length f (n ∷ ns) [] = ap suc (completed_length (λ i. f (suc i)) ns [])
completed_length f (n ∷ ns) (p ∷ prefix) = ap suc (completed_length (λ i. f (suc i)) ns prefix)

completed_admitted : (f : ℕ → ℕ) (ns prefix : List ℕ) → admits ns prefix ≡ true → IsBelow f ns → admits ns (completed f ns prefix) ≡ true
unfolding completed
completed_admitted f [] prefix a below = refl
completed_admitted f (n ∷ ns) [] a below =
    and_from (nat_lt (f 0) n) (admits ns (completed (λ i. f (suc i)) ns [])) (lt-ltb (f 0) n (below 0 (omega arith)))
    (completed_admitted (λ i. f (suc i)) ns [] refl (λ i h. below (suc i) (omega arith)))
completed_admitted f (n ∷ ns) (p ∷ prefix) a below =
    let parts = and_parts (nat_lt p n) (admits ns prefix) a in
    and_from (nat_lt p n) (admits ns (completed (λ i. f (suc i)) ns prefix)) parts.0
    (completed_admitted (λ i. f (suc i)) ns prefix parts.1 (λ i h. below (suc i) (omega arith)))

completed_begins : (f : ℕ → ℕ) (ns prefix : List ℕ) → admits ns prefix ≡ true → begins (completed f ns prefix) prefix ≡ true
unfolding completed
completed_begins f [] (p ∷ prefix) a = cc
completed_begins f (n ∷ ns) (p ∷ prefix) a =
    and_from (nat_eq p p) (begins (completed (λ i. f (suc i)) ns prefix) prefix) (eq-eqb p p refl)
    (completed_begins (λ i. f (suc i)) ns prefix (and_parts (nat_lt p n) (admits ns prefix) a).1)
completed_begins f ns prefix a = refl

-- it is a completion, and it has the positions of the function after the prefix
pub completed_in : (f : ℕ → ℕ) (ns prefix : List ℕ) → admits ns prefix ≡ true → IsBelow f ns → IsIn (completions ns prefix) (completed f ns prefix)
completed_in f ns prefix a below =
    in_completions ns prefix (completed f ns prefix) (completed_admitted f ns prefix a below, completed_length f ns prefix) (completed_begins f ns prefix a)

pub completed_at : (f : ℕ → ℕ) (ns prefix : List ℕ) (i : ℕ) → length prefix ≤ i → i < length ns → get_or (completed f ns prefix) i 0 ≡ f i
unfolding completed
completed_at f (n ∷ ns) [] zero low high = refl
completed_at f (n ∷ ns) [] (suc i) low high = completed_at (λ k. f (suc k)) ns [] i (omega arith) (omega arith)
completed_at f (n ∷ ns) (p ∷ prefix) (suc i) low high = completed_at (λ k. f (suc k)) ns prefix i (omega arith) (omega arith)
completed_at f ns prefix i low high = absurd (omega arith)
