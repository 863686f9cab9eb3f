-- What a label is asked, and what was found of it.
use Rattle.std.specs.Prelude.{◌≡◌, ◌<◌, ℕ, List, false, IsTrue, length}
use Rattle.am_classes.specs.declared.alphabet.Alphabet.{Alphabet}
use Rattle.am_classes.specs.declared.candidates.CandidateTexts.{CandidateTexts}
use Rattle.am_classes.specs.declared.questions.Questions.{Questions}
use Rattle.am_classes.specs.Candidates.{AreApartCandidates, AreCandidates, AreTied}
use Rattle.am_classes.specs.State.{named_texts, patterns_of}

-- What questions ask: over which alphabet the texts are, which texts are named, and which patterns
-- are taken.
abbrev pub asks : Questions → Alphabet × (List (List ℕ) × List (List ℕ))
asks q = (q.alphabet, (named_texts q, patterns_of q))

-- Candidates that were found for some questions: they stand for all texts that are not named, or
-- they are too many, and then there is a pattern.
-- Source: own choice.
-- Example: for the pattern `db.*` alone these may be the empty text and `db`.
pub record IsFoundFor (q : Questions) (found : CandidateTexts) : Type 0 where
  pub distinct : AreApartCandidates q found.items.items
  pub all : IsTrue found.all → AreCandidates q found.items.items
  pub patterns : found.all ≡ false → 0 < length q.automata.items
  pub tied : AreTied q found.items.items
