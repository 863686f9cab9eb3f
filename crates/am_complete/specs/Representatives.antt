-- Which texts a universe that is made adds to a label. Each stands for a class of texts that the
-- matchers on the label cannot tell apart.
use Rattle.std.specs.Prelude.{◌≡◌, ◌⊎◌, ◌<◌, ◌≤◌, ℕ, List, Some, Contains, Bool, true, not, length}
use Rattle.std.specs.Prelude.{codes, IsTrue, map, string_bytes}
use Rattle.std.specs.List.{AllByRecursion}
use Rattle.am_universe.specs.LabelSet.{LabelMap, value_of}
use Rattle.am_universe.specs.Universe.{Label}
use Rattle.am_labels.specs.Matcher.{Matcher, takes_pattern}
use Rattle.am_labels.specs.Space.{Space}
use Rattle.am_classes.specs.declared.alphabet.Alphabet.{Alphabet}
use Rattle.am_classes.specs.declared.limits.TheConstants.{MAX_SAMPLE_NUMBERS}
use Rattle.am_classes.specs.declared.class_texts.ClassTexts.{ClassTexts}
use Rattle.am_classes.specs.ClassTexts.{IsClassText}
use Rattle.am_classes.specs.LabelTests.{IsTestsOf}
use Rattle.am_complete.specs.AskedLabel.{AskedLabel}
use Rattle.am_complete.specs.Complete.{about, texts_of_label, AreAmong}
use Rattle.am_complete.specs.Covering.{AreClasses, standing_texts}
use Rattle.am_complete.specs.Missing.{MissingTexts}

-- A usual text of a label: one that an alert has for it, or `other`.
-- Source: own choice: it is to be a text that a reader knows.
-- Example: if the only alert has `team="db"`, the usual texts of `team` are `db` and `other`.
abbrev pub IsUsual : List LabelMap → List ℕ → List ℕ → Type 0
IsUsual alerts name text =
    (text ≡ codes "other")
    ⊎ ((alert : LabelMap) × Contains alerts alert × (value_of alert name ≡ text))

-- A text that may be tried if not all classes of a label's texts are found: one that is no longer
-- than a pattern on the label, as a word of it is, or a short one that a pattern finds.
-- Source: own choice.
-- Example: for `team=~"(db|web)\b"` the words `db` and `web` may be tried.
abbrev pub IsTried : List Matcher → List ℕ → Type 0
IsTried ms text =
    (length text < MAX_SAMPLE_NUMBERS)
    ⊎ ((m : Matcher) × Contains ms m × IsTrue (takes_pattern m.op)
    × (length text ≤ length m.value))

-- A text may stand for its class in a universe: a matcher on the label names it, or it is a
-- shortest of its class, or `other`, or an alert has it; or, if the universe may lack texts there,
-- it is one that may be tried.
-- Source: own choice.
-- Example: for `team=~"db.*"` alone, if an alert has `db1`, this is so of `db1` and `db`, and not
-- of `db2`.
abbrev pub IsRepresentative :
    Bool → Alphabet → List LabelMap → List ℕ → List Matcher → List ℕ → Type 0
IsRepresentative may_lack a alerts name ms text =
    IsClassText a ms text ⊎ (IsUsual alerts name text ⊎ ((may_lack ≡ true) × IsTried ms text))

-- Texts that were found for a label stand for its classes, or for some of them. They come with
-- tests of its matchers, or if the texts are not all, perhaps of only some of these.
-- Source: own choice.
-- Example: for `team="db"` alone, `db` and the empty text may be found, with tests of this matcher.
pub record AreFoundTexts (a : Alphabet) (alerts : List LabelMap) (l : AskedLabel)
    (found : ClassTexts) : Type 0 where
  pub classes : AreClasses a l.matchers (map string_bytes found.texts.items) found.all
  pub represent : AllByRecursion (IsRepresentative (not found.all) a alerts l.name l.matchers)
      (map string_bytes found.texts.items)
  pub tests : (ms : List Matcher) × IsTestsOf ms found.tests × AreAmong ms l.matchers
      × (IsTrue found.all → ms ≡ l.matchers)

-- Each text of each label of a universe stands for the label in a space, or is one that may stand
-- for its class.
-- Source: own choice.
-- Example: for `team=~"db.*"` alone and a space without labels, this is so if `team` has absence
-- and `db`. It is not if `team` has absence and `db2`, unless an alert has `db2`.
abbrev pub AddsRepresentatives :
    Bool → Alphabet → Space → List LabelMap → List Matcher → List Label → Type 0
AddsRepresentatives may_lack a s alerts ms u =
    AllByRecursion (λ l. AllByRecursion (λ text. Contains (standing_texts s l.name) text
    ⊎ IsRepresentative may_lack a alerts l.name (about l.name ms) text)
    (texts_of_label (Some l))) u

-- The texts that a label lacks may stand for their classes.
abbrev pub AreRepresentatives : Alphabet → List LabelMap → AskedLabel → MissingTexts → Type 0
AreRepresentatives a alerts l m =
    AllByRecursion (IsRepresentative (not m.all) a alerts l.name l.matchers) m.texts

-- Each of some texts was among others, or is new and so.
abbrev pub GainsOnly : (List ℕ → Type 0) → List (List ℕ) → List (List ℕ) → Type 0
GainsOnly So old new = AllByRecursion (λ text. Contains old text ⊎ So text) new
