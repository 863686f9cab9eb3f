-- Matchers, and the label sets on which they are true.
use Rattle.std.specs.Prelude.{ℕ, List, Bool, true, false, not, codes}
use Rattle.std.specs.List.{list_all}
use Rattle.am_labels.specs.declared.op.Op.{Op}
use Rattle.am_labels.specs.declared.op.Op.TheVariants.{Equal, NotEqual, Matches, NotMatches}
use Rattle.am_labels.specs.declared.op.Comparison.{Comparison}
use Rattle.am_labels.specs.declared.op.Comparison.TheVariants.{Text, Pattern}
use Rattle.am_universe.specs.Text.{same_text}
use Rattle.am_labels.specs.Pattern.{finds}
use Rattle.am_universe.specs.LabelSet.{LabelMap, value_of}

-- A matcher: the name of a label, an operator, and the value that the operator compares with, which
-- is a text or a pattern.
pub record Matcher : Type 0 where
  pub name : List ℕ
  pub op : Op
  pub value : List ℕ

-- How an operator is written.
-- Source: Alertmanager configuration reference 0.25, "<matcher>".
-- Example: `team!~"d.*"` has the operator `!~`.
abbrev pub operator_text : Op → List ℕ
operator_text Equal = codes "="
operator_text NotEqual = codes "!="
operator_text Matches = codes "=~"
operator_text NotMatches = codes "!~"

-- How an operator compares the value of a label: with a text, or with a pattern.
abbrev pub comparison : Op → Comparison
comparison Equal = Text
comparison NotEqual = Text
comparison Matches = Pattern
comparison NotMatches = Pattern

-- The operator is `=`.
abbrev pub is_equality : Op → Bool
is_equality Equal = true
is_equality other = false

-- Whether a comparison is with a pattern.
abbrev is_by_pattern : Comparison → Bool
is_by_pattern Pattern = true
is_by_pattern other = false

-- The operators whose value is a pattern: `=~` and `!~`.
abbrev pub takes_pattern : Op → Bool
takes_pattern op = is_by_pattern (comparison op)

-- The operators that negate a comparison: `!=` and `!~`.
abbrev pub negates : Op → Bool
negates Equal = false
negates NotEqual = true
negates Matches = false
negates NotMatches = true

-- The truth of an operator and its value on a text. `=`: the two texts are equal. `!=`: they are
-- not. `=~`: the pattern finds the text. `!~`: it does not.
-- Source: Alertmanager configuration reference 0.25, "<matcher>".
-- Example: `=~` with `db|web` is true of `db`, and false of `db2`.
abbrev pub holds : Op → List ℕ → List ℕ → Bool
holds Equal value text = same_text text value
holds NotEqual value text = not (same_text text value)
holds Matches value text = finds value text
holds NotMatches value text = not (finds value text)

-- The truth of a matcher on a label set: that of its operator and value on the value of the label.
-- If the label is missing, this is the empty text.
abbrev pub condition_holds : LabelMap → Matcher → Bool
condition_holds s m = holds m.op m.value (value_of s m.name)

-- A list of matchers matches a label set: each matcher is true of it.
-- Source: Alertmanager configuration reference 0.25, "<matcher>".
-- Example: `team="db",severity!="page"` matches `{team="db"}`. The empty list matches every label
-- set.
abbrev pub all_hold : LabelMap → List Matcher → Bool
all_hold s ms = list_all (condition_holds s) ms
