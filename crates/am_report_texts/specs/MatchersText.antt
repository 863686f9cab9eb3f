-- Matchers in braces: the text of a list that is read back as these matchers.
use Rattle.std.specs.Prelude.{ℕ, List, ◌++◌, codes}
use Rattle.am_universe.specs.Text.{quoted_text}
use Rattle.am_labels.specs.Matcher.{Matcher, operator_text}
use Rattle.am_report_texts.specs.Separated.{texts_behind}
use Rattle.am_report_texts.specs.NameText.{name_text}

-- A matcher: its name, in quotes if no list may have it, its operator, and its value in quotes.
-- Source: Alertmanager configuration reference 0.25, "<matcher>".
-- Example: `team!~"d.*"`.
abbrev pub matcher_text : Matcher → List ℕ
matcher_text m = name_text m.name ++ (operator_text m.op ++ quoted_text m.value)

-- The matchers in braces, separated by commas.
-- Source: Alertmanager configuration reference 0.25, "<matcher>".
-- Example: `{team="db",severity=~"crit.*"}`; without matchers, `{}`.
abbrev pub matchers_text : List Matcher → List ℕ
matchers_text ms = codes "{" ++ (texts_behind (codes "") (codes ",") matcher_text ms ++ codes "}")
