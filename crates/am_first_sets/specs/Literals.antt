-- Which choices meet literals. A literal asks for a list of matchers to match, or not to match;
-- here the list is a cube. A parameter says among which choices a search looks.
use Rattle.std.specs.Prelude.{◌≡◌, ℕ, List, map, Bool, true, false, not, ◌||◌, ◌&&◌, if◌then◌else◌}
use Rattle.std.specs.Borrow.{Bor}
use Rattle.std.specs.List.{list_all, filter}
use Rattle.am_judged_lists.specs.Cube.{MaskedLabels, matches}
use Rattle.am_first_sets.specs.declared.candidate.Candidate.{Candidate}

-- Whether a literal is true at a choice: its cube matches, or, if the literal asks for no match,
-- does not match.
-- Source: propositional logic, where a literal is a statement or its negation.
-- Example: `not matching severity="critical"` is true at a choice of severity `info`.
abbrev pub holds_at : List ℕ → Candidate → Bool
holds_at c k = if k.wanted then matches k.cube.now c else not (matches k.cube.now c)

-- All literals of a list are true at a choice, or all named ones are.
abbrev pub hold_all : List ℕ → List Candidate → Bool
hold_all c ks = list_all (holds_at c) ks

abbrev pub meets : List ℕ → List Candidate → Bool
meets c ks = list_all (λ k. not k.named || holds_at c k) ks

-- Some choice meets the named literals; no choice does.
abbrev pub IsMet : (List ℕ → Type 0) → List Candidate → Type 0
IsMet Is ks = (c : List ℕ) × Is c × (meets c ks ≡ true)

abbrev pub IsUnmet : (List ℕ → Type 0) → List Candidate → Type 0
IsUnmet Is ks = (c : List ℕ) → Is c → meets c ks ≡ false

-- The cubes of the named literals: of those that ask for a match, and of those that ask for no
-- match.
abbrev pub wanted_of : List Candidate → List (Bor MaskedLabels)
wanted_of ks = map (λ k. k.cube) (filter (λ k. k.named && k.wanted) ks)

abbrev pub unwanted_of : List Candidate → List (Bor MaskedLabels)
unwanted_of ks = map (λ k. k.cube) (filter (λ k. k.named && not k.wanted) ks)
