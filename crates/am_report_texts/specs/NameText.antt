-- The name of a label in a report. (This project's own.)
use Rattle.std.specs.Prelude.{ℕ, List, if◌then◌else◌}
use Rattle.am_universe.specs.Text.{quoted_text}
use Rattle.am_labels.specs.MatcherText.{is_name}

-- The name: as it is if a list of matchers may have it, and else in quotes.
-- Source: own choice.
-- Example: `team` and `"job-name"`.
abbrev pub name_text : List ℕ → List ℕ
name_text name = if is_name name then name else quoted_text name
