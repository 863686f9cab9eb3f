-- Which text stands for a class of texts that some matchers cannot tell apart. The matchers are
-- those of one label.
use Rattle.std.specs.Prelude.{◌≡◌, ◌≤◌, ◌<◌, ◌⊎◌, ℕ, zero, suc, List, [], ◌++◌, length, Contains}
use Rattle.std.specs.Prelude.{codes, false, map, string_bytes, vec_len}
use Rattle.std.specs.List.{AllByRecursion}
use Rattle.am_universe.specs.declared.limits.TheConstants.{MAX_VALUES}
use Rattle.am_labels.specs.Matcher.{Matcher}
use Rattle.am_classes.specs.declared.alphabet.Alphabet.{Alphabet}
use Rattle.am_classes.specs.declared.class_texts.ClassTexts.{ClassTexts}
use Rattle.am_classes.specs.declared.limits.TheConstants.{MAX_SAMPLE_NUMBERS}
use Rattle.am_classes.specs.Alphabet.{IsOver, AreOver}
use Rattle.am_classes.specs.Alike.{AreAlike, AreApart}
use Rattle.am_classes.specs.LabelTests.{IsTestsOf}
use Rattle.am_classes.specs.Named.{named_by}

-- One of some matchers names a text: it compares with this text, or the text is an alternative of
-- its pattern, if that is an alternation of plain texts.
-- Source: own choice.
-- Example: `team!="db"` and `team=~"db|web"` name `db`, and `team=~"db.*"` names no text.
abbrev pub Names : List Matcher → List ℕ → Type 0
Names ms text = (m : Matcher) × Contains ms m × Contains (named_by m) text

-- A text is a shortest of its class: no text over an alphabet that is alike to it is shorter.
-- Source: own choice.
-- Example: to `team=~"db.*"` alone, `db` and the empty text are, and `db2` and `web` are not.
abbrev pub IsShortest : Alphabet → List Matcher → List ℕ → Type 0
IsShortest a ms text =
    (x : List ℕ) → IsOver a x → AreAlike ms text x → length text ≤ length x

-- The text `other`, a number of times; and a text is that, as often as needed: each shorter one,
-- down to absence, is named.
-- Source: own choice.
-- Example: if `other` and the empty text are named, `otherother` is such a text.
abbrev pub others : ℕ → List ℕ
others zero = []
others (suc n) = others n ++ codes "other"

abbrev pub IsOther : (List ℕ → Type 0) → List ℕ → Type 0
IsOther Named text =
    (n : ℕ) × (text ≡ others n) × ((k : ℕ) → k < n → Named (others k))

-- A text that `classes` may give for a class, if it gives all: a matcher names it, or it is a
-- shortest of its class, or `other`.
-- Source: own choice.
-- Example: to `team="web"` and `team=~"db.*"`, `web`, `db` and the empty text are such texts.
abbrev pub IsClassText : Alphabet → List Matcher → List ℕ → Type 0
IsClassText a ms text = Names ms text ⊎ (IsShortest a ms text ⊎ IsOther (Names ms) text)

-- More texts than a label may have values are over an alphabet, no two are alike to some matchers,
-- and some of these are kept as tests. Each text is named by a matcher or short.
-- Source: own choice.
-- Example: the texts `v0` to `v1024` are so for matchers `=` with each of them.
pub record AreManyClasses (a : Alphabet) (ms : List Matcher) (c : ClassTexts) : Type 0 where
  pub not_all : c.all ≡ false
  pub many : MAX_VALUES < vec_len c.texts
  pub over : AreOver a (map string_bytes c.texts.items)
  pub apart : AreApart ms (map string_bytes c.texts.items)
  pub tied : AllByRecursion (λ text. Names ms text ⊎ (length text < MAX_SAMPLE_NUMBERS))
      (map string_bytes c.texts.items)
  pub tests : (ns : List Matcher) × IsTestsOf ns c.tests × AllByRecursion (Contains ms) ns
