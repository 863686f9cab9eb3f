-- The text of a page: a line for each choice, then a trailer. (This project's own.)
use Rattle.std.specs.Prelude.{ℕ, List, ◌++◌}
use Rattle.std.specs.List.{flat_map}
use Rattle.am_universe.specs.Universe.{Label}
use Rattle.am_universe.specs.WrittenLabelSet.{line}
use Rattle.am_search.specs.Page.{AnswerPage}
use Rattle.am_search.specs.TrailerText.{trailer_text}

-- The lines of choices.
abbrev pub lines_text : List Label → List (List ℕ) → List ℕ
lines_text u choices = flat_map (line u) choices

-- The text of a page: the line of each choice, and then the trailer, whose token is written for
-- inputs with this fingerprint.
-- Source: own choice.
-- Example: in the universe of one label `team` with the values `db` and absence, the page of both
-- choices has three lines: `{team="db"}`, `{}` and `# end`.
abbrev pub page_text : List Label → List ℕ → AnswerPage → List ℕ
page_text u fingerprint page = lines_text u page.choices ++ trailer_text fingerprint page.trailer
