-- What the classes of a label are made from.
use Rattle.std.specs.Prelude.{◌≡◌, ◌<◌, ◌+◌, ◌⊎◌, ℕ, List, [], false, length, map, string_bytes}
use Rattle.std.specs.Prelude.{IsTrue, vec_len}
use Rattle.std.specs.List.{AllByRecursion}
use Rattle.am_universe.specs.declared.limits.TheConstants.{MAX_VALUES}
use Rattle.am_labels.specs.Matcher.{Matcher}
use Rattle.am_classes.specs.declared.alphabet.Alphabet.{Alphabet}
use Rattle.am_classes.specs.declared.class_texts.ClassTexts.{ClassTexts}
use Rattle.am_classes.specs.declared.label_tests.LabelTests.{LabelTests}
use Rattle.am_classes.specs.declared.limits.TheConstants.{MAX_SAMPLE_NUMBERS}
use Rattle.am_classes.specs.declared.parts.Parts.{Parts}
use Rattle.am_classes.specs.declared.questions.Questions.{Questions}
use Rattle.am_classes.specs.Alike.{AreApart, Covers, HasOtherPattern}
use Rattle.am_classes.specs.Alphabet.{AreOver}
use Rattle.am_classes.specs.Automata.{MayLackAutomaton}
use Rattle.am_classes.specs.ClassTexts.{IsClassText}
use Rattle.am_classes.specs.Exploration.{HasManyLabelStates}
use Rattle.am_classes.specs.Found.{IsFoundFor, asks}
use Rattle.am_classes.specs.LabelTests.{IsTestsOf}
use Rattle.am_classes.specs.State.{named_texts}
use Rattle.am_classes.specs.Truths.{AreNewIn}

-- Questions ask about texts over an alphabet, by these named texts and by the patterns of tests.
abbrev pub AskOf : Alphabet → LabelTests → List (List ℕ) → Questions → Type 0
AskOf a tests texts q = asks q ≡ (a, (texts, map (λ p. p.now) tests.patterns.keys))

-- The named texts are those that are alike to none before them, and the candidates are all, or
-- with them there are more than a label may have values.
-- Source: own choice.
-- Example: of `team="web"` and `team=~"db.*"` they are `web`, and the empty text and `db`.
pub record AreParts (a : Alphabet) (tests : LabelTests) (texts : List (List ℕ)) (parts : Parts)
    : Type 0 where
  pub asked : AskOf a tests texts parts.questions
  pub new : (ms : List Matcher) → IsTestsOf ms tests
      → AreNewIn ms [] (named_texts parts.questions) (map string_bytes parts.named.items)
  pub found : IsFoundFor parts.questions parts.candidates
  pub many : parts.candidates.all ≡ false
      → MAX_VALUES < length parts.named.items + length parts.candidates.items.items

-- There may be no parts: a pattern may have no automaton, or there are patterns and too many
-- states.
abbrev pub MayLackParts : Alphabet → LabelTests → List (List ℕ) → Type 0
MayLackParts a tests texts =
    MayLackAutomaton (map (λ p. p.now) tests.patterns.keys)
    ⊎ ((q : Questions) × AskOf a tests texts q × (0 < length q.automata.items)
    × HasManyLabelStates q)

-- Texts that `classes` may give for the matchers of a label, with the tests of these. If they are
-- not all, they are more than a label may have values, and a matcher takes a pattern.
pub record AreClassTexts (a : Alphabet) (ms : List Matcher) (c : ClassTexts) : Type 0 where
  pub covers : IsTrue c.all → Covers a ms (map string_bytes c.texts.items)
  pub many : c.all ≡ false → (MAX_VALUES < vec_len c.texts) × HasOtherPattern ms
  pub over : AreOver a (map string_bytes c.texts.items)
  pub apart : AreApart ms (map string_bytes c.texts.items)
  pub tied : AllByRecursion (λ text. IsClassText a ms text
      ⊎ ((c.all ≡ false) × (length text < MAX_SAMPLE_NUMBERS))) (map string_bytes c.texts.items)
  pub tests : IsTestsOf ms c.tests
