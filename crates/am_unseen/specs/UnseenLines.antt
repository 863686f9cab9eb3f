-- The lines of unseen names and of unseen matchers. (This project's own.)
use Rattle.std.specs.Prelude.{ℕ, List, [], ◌∷◌, ◌++◌, Option, Some, None, codes, if◌then◌else◌}
use Rattle.std.specs.List.{flat_map}
use Rattle.am_universe.specs.LabelSet.{LabelMap}
use Rattle.am_labels.specs.declared.op.Comparison.{Comparison}
use Rattle.am_labels.specs.declared.op.Comparison.TheVariants as comparison_is
use Rattle.am_labels.specs.Matcher.{comparison, operator_text}
use Rattle.am_report_texts.specs.Line.{Line, Piece, Shown, Words, Value, Word, Number, Name, Text}
use Rattle.am_report_texts.specs.Line.{Path}
use Rattle.am_report_texts.specs.declared.lines.Field.{Field}
use Rattle.am_report_texts.specs.declared.lines.Field.TheVariants as field_is
use Rattle.am_report_texts.specs.declared.lines.Level.TheVariants as level_is
use Rattle.am_complete.specs.declared.origin.Origin.{Origin}
use Rattle.am_complete.specs.declared.origin.Origin.TheVariants as origin_is
use Rattle.am_eval.specs.World.{World}
use Rattle.am_unseen.specs.declared.known.Known.{Known}
use Rattle.am_unseen.specs.Known.{known_of, known_text, is_told}
use Rattle.am_unseen.specs.Unseen.{UnseenMatcher, unseen_matchers}
use Rattle.am_unseen.specs.UnseenNames.{UnseenName, unseen_names}

-- The place of a matcher or of a name: the path of its route, or, if it stands elsewhere, the kind
-- and the position of what it stands in.
-- Source: own choice.
-- Example: `/2/0`, `rule 3` and `silence 0`.
abbrev pub numbered : List ℕ → Field → ℕ → List Piece
numbered kind field position = Words kind ∷ Value field (Number position) ∷ []

abbrev pub place_pieces : Origin → List Piece
place_pieces (origin_is.Route path) = Value field_is.Path (Path path) ∷ []
place_pieces (origin_is.Rule position) = numbered (codes "rule ") field_is.Rule position
place_pieces (origin_is.Silence position) =
    numbered (codes "silence ") field_is.Silence position
place_pieces (origin_is.Question position) =
    numbered (codes "question ") field_is.Question position
place_pieces (origin_is.Impossible position) =
    numbered (codes "impossible ") field_is.Impossible position

-- The pieces of a line up to the name of the label.
-- Source: own choice.
-- Example: `/2/0 unseen: no alert or rule has tema`.
abbrev pub begun_pieces : Known → Origin → List ℕ → List Piece
begun_pieces known origin name =
    place_pieces origin ++ Words (codes " ") ∷ Value field_is.Kind (Word (codes "unseen"))
    ∷ Words (codes ": no ") ∷ Words (known_text known) ∷ Words (codes " has ")
    ∷ Value field_is.Name (Name name) ∷ []

-- What is known that is similar.
abbrev pub similar_pieces : Shown → List Piece
similar_pieces similar = Words (codes ", some have ") ∷ Value field_is.Similar similar ∷ []

-- The most similar name, if there is one; and the line of an unseen name, if it is told.
-- Source: own choice.
-- Example: `note /2/0 unseen: no alert has tema, some have team`.
abbrev pub similar_name_pieces : Option (List ℕ) → List Piece
similar_name_pieces None = []
similar_name_pieces (Some name) = similar_pieces (Name name)

abbrev pub name_line : Known → UnseenName → Line
name_line known unseen = record {
  level = level_is.Note;
  pieces = begun_pieces known unseen.origin unseen.name ++ similar_name_pieces unseen.similar;
}

abbrev pub name_lines : Known → UnseenName → List Line
name_lines known unseen =
    if is_told known unseen.similar then name_line known unseen ∷ [] else []

-- The field of what a matcher compares with: a value, or a pattern.
abbrev pub compared_field : Comparison → Field
compared_field comparison_is.Text = field_is.Value
compared_field comparison_is.Pattern = field_is.Pattern

-- The most similar value, if there is one; and the line of a matcher that asks for what no alert
-- has, if it is told.
-- Source: own choice.
-- Example: `note /2/0 unseen: no alert has severity="critcal", some have "critical"` and
-- `note /2/0 unseen: no alert has severity=~"critcal.*"`.
abbrev pub similar_value_pieces : Option (List ℕ) → List Piece
similar_value_pieces None = []
similar_value_pieces (Some value) = similar_pieces (Text value)

abbrev pub matcher_line : Known → UnseenMatcher → Line
matcher_line known unseen = record {
  level = level_is.Note;
  pieces = begun_pieces known unseen.origin unseen.matcher.name
      ++ (Words (operator_text unseen.matcher.op)
      ∷ Value (compared_field (comparison unseen.matcher.op)) (Text unseen.matcher.value)
      ∷ similar_value_pieces unseen.similar);
}

abbrev pub matcher_lines : Known → UnseenMatcher → List Line
matcher_lines known unseen =
    if is_told known unseen.similar then matcher_line known unseen ∷ [] else []

-- The lines of a world: those of unseen names, and then those of unseen matchers. `rules` has the
-- label sets that alerting rules fix.
-- Source: own choice.
-- Example: without alerts and rules there are none.
abbrev pub unseen_lines : World → List LabelMap → List Line
unseen_lines w rules =
    flat_map (name_lines (known_of w.alerts rules)) (unseen_names w rules)
    ++ flat_map (matcher_lines (known_of w.alerts rules)) (unseen_matchers w rules)
