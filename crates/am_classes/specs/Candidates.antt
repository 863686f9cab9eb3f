-- Texts that no matcher names. Each stands for a class.
use Rattle.std.specs.Prelude.{◌≡◌, ◌≤◌, ◌<◌, ◌⊎◌, ℕ, List, Some, slice_get, length}
use Rattle.std.specs.Prelude.{string_bytes}
use Rattle.std.specs.Global.{Vec}
use Rattle.std.specs.HashSet.{HashSet, contains}
use Rattle.std.specs.List.{list_any}
use Rattle.am_classes.specs.declared.questions.Questions.{Questions}
use Rattle.am_classes.specs.declared.candidate.Candidate.{Candidate}
use Rattle.am_classes.specs.declared.label_state.LabelState.{LabelState}
use Rattle.am_classes.specs.declared.tail.Tail.TheVariants.{Whole}
use Rattle.am_classes.specs.Alphabet.{IsOver}
use Rattle.am_classes.specs.State.{FollowsLabel, IsNamed}
use Rattle.am_classes.specs.Automata.{found_by}
use Rattle.am_classes.specs.ClassTexts.{IsOther}
use Rattle.am_classes.specs.Truths.{are_same}

-- A candidate says which patterns find its text. The text is not named, and is over the alphabet.
pub record IsCandidate (q : Questions) (candidate : Candidate) : Type 0 where
  pub found : candidate.found.items ≡ found_by q.automata.items (string_bytes candidate.text)
  pub unnamed : ¬ (IsNamed q (string_bytes candidate.text))
  pub over : IsOver q.alphabet (string_bytes candidate.text)

-- One of some candidates is found by exactly these patterns.
abbrev pub HasFound : List Candidate → List ℕ → Type 0
HasFound candidates found =
    (k : ℕ) × (candidate : Candidate) × (slice_get candidates k ≡ Some candidate)
    × (candidate.found.items ≡ found)

-- A set has the found patterns of each candidate, and no others.
-- Source: own choice.
-- Example: if `db` and the empty text are candidates of `db.*`, it has the place 0 alone, and none.
abbrev pub HasEachFound : {S : Type 0} → HashSet (Vec ℕ) S → List Candidate → Type 0
HasEachFound seen candidates =
    (found : Vec ℕ) → contains are_same seen found
    ≡ list_any (λ candidate. are_same candidate.found found) candidates

-- One of some candidates is found by exactly the patterns that find a text.
abbrev pub HasCandidate : Questions → List Candidate → List ℕ → Type 0
HasCandidate q candidates text =
    HasFound candidates (found_by q.automata.items text)

-- Candidates, no two of which are found by exactly the same patterns.
pub record AreApartCandidates (q : Questions) (candidates : List Candidate) : Type 0 where
  pub own : (k : ℕ) (candidate : Candidate) → slice_get candidates k ≡ Some candidate
      → IsCandidate q candidate
  pub apart : (i j : ℕ) (x y : Candidate) → slice_get candidates i ≡ Some x
      → slice_get candidates j ≡ Some y → x.found.items ≡ y.found.items → i ≡ j

-- For each text that a state follows, if its tail is whole and it is not named, there is a
-- candidate that is found by exactly the same patterns.
abbrev pub Represents : Questions → List Candidate → LabelState → Type 0
Represents q candidates state =
    (text : List ℕ) → FollowsLabel q state text → state.tail ≡ Whole → ¬ (IsNamed q text)
    → HasCandidate q candidates text

-- Candidates stand for all texts over the alphabet that are not named.
-- Source: own choice.
-- Example: if `db.*` is the only pattern and no text is named, `db` and the empty text do.
pub record AreCandidates (q : Questions) (candidates : List Candidate) : Type 0 where
  pub distinct : AreApartCandidates q candidates
  pub all : (text : List ℕ) → IsOver q.alphabet text → ¬ (IsNamed q text)
      → HasCandidate q candidates text

-- A candidate is a shortest one: no shorter text over the alphabet is found by exactly the same
-- patterns and not named.
-- Source: own choice.
-- Example: for the pattern `db.*`, `db` is such a text, and `db2` is not.
abbrev pub IsShortestFound : Questions → Candidate → Type 0
IsShortestFound q candidate =
    (text : List ℕ) → IsOver q.alphabet text → ¬ (IsNamed q text)
    → found_by q.automata.items text ≡ candidate.found.items
    → length (string_bytes candidate.text) ≤ length text

abbrev pub AreShortest : Questions → List Candidate → Type 0
AreShortest q candidates =
    (k : ℕ) (candidate : Candidate) → slice_get candidates k ≡ Some candidate
    → IsShortestFound q candidate

-- For each text over the alphabet that is not named and has fewer than `n` bytes, there is a
-- candidate that is found by exactly the same patterns.
abbrev pub RepresentShorter : Questions → List Candidate → ℕ → Type 0
RepresentShorter q candidates n =
    (text : List ℕ) → IsOver q.alphabet text → ¬ (IsNamed q text) → length text < n
    → HasCandidate q candidates text

-- Each candidate is `other`, as often as needed, or a shortest one.
abbrev pub AreTied : Questions → List Candidate → Type 0
AreTied q candidates =
    (k : ℕ) (candidate : Candidate) → slice_get candidates k ≡ Some candidate
    → IsOther (IsNamed q) (string_bytes candidate.text) ⊎ IsShortestFound q candidate
