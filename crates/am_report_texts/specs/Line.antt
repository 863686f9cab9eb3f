-- The lines of reports. A line is made of pieces, and a piece with a meaning has a name. (This
-- project's own.)
use Rattle.std.specs.Prelude.{ℕ, List, [], ◌∷◌, ◌++◌, Bool, true, false, not, codes}
use Rattle.std.specs.Prelude.{◌==◌, count_by, decimal}
use Rattle.std.specs.List.{filter, flat_map}
use Rattle.am_universe.specs.Bytes.{line_feed}
use Rattle.am_universe.specs.Text.{quoted_text}
use Rattle.am_universe.specs.WrittenLabelSet.{pair_text}
use Rattle.am_labels.specs.Matcher.{Matcher}
use Rattle.am_config.specs.Path.{path_text}
use Rattle.am_report_texts.specs.MatchersText.{matchers_text}
use Rattle.am_report_texts.specs.NameText.{name_text}
use Rattle.am_report_texts.specs.Separated.{texts_behind}
use Rattle.am_report_texts.specs.declared.lines.Field.{Field}
use Rattle.am_report_texts.specs.declared.lines.Level.{Level}
use Rattle.am_report_texts.specs.declared.lines.Level.TheVariants as level_is

-- A route as a list of routes shows it: its path, its matchers, and the word for what is said of
-- it, or the empty text.
pub record ShownRoute : Type 0 where
  pub path : List ℕ
  pub matchers : List Matcher
  pub kind : List ℕ

-- What a piece shows: a word, a number, the name of a label or of a field, such names, a JSON
-- pointer, a text, texts, the path of a route, a label set with its labels in order, matchers,
-- lists of matchers, routes, or inhibition rules with firing alerts, by their positions.
pub data Shown : Type 0 where
  Word : List ℕ → Shown
  Number : ℕ → Shown
  Name : List ℕ → Shown
  Names : List (List ℕ) → Shown
  Pointer : List ℕ → Shown
  Text : List ℕ → Shown
  Texts : List (List ℕ) → Shown
  Path : List ℕ → Shown
  Labels : List (List ℕ × List ℕ) → Shown
  Matchers : List Matcher → Shown
  Lists : List (List Matcher) → Shown
  Routes : List ShownRoute → Shown
  Inhibitors : List (ℕ × ℕ) → Shown

-- A piece of a line: words for the reader alone, or something that has a name in JSON.
pub data Piece : Type 0 where
  Words : List ℕ → Piece
  Value : Field → Shown → Piece

-- A line says whether it is a finding or a note, in a report that tells these apart.
pub record Line : Type 0 where
  pub level : Level
  pub pieces : List Piece

-- A report: its lines, and the pieces of its last line, which says how many there are.
pub record Report : Type 0 where
  pub lines : List Line
  pub last : List Piece

-- ---- The text.

-- Words without line feeds: what stands in a line cannot end it.
abbrev pub unbroken : List ℕ → List ℕ
unbroken text = filter (λ c. not (c == line_feed)) text

-- The word behind a route, if it has one; and a route.
-- Source: own choice.
-- Example: `/0 {team="db"} dead`.
abbrev pub word_behind : List ℕ → List ℕ
word_behind [] = []
word_behind (c ∷ cs) = codes " " ++ unbroken (c ∷ cs)

abbrev pub shown_route_text : ShownRoute → List ℕ
shown_route_text r =
    path_text r.path ++ (codes " " ++ (matchers_text r.matchers ++ word_behind r.kind))

-- A label with its value, and a label set. A name that no list of matchers may have is in quotes.
-- Source: Prometheus data model, "Notation".
-- Example: `{team="db","job-name"="a"}`.
abbrev pub label_text : List ℕ × List ℕ → List ℕ
label_text label = pair_text (name_text label.0, label.1)

abbrev pub labels_text : List (List ℕ × List ℕ) → List ℕ
labels_text labels = codes "{" ++ (texts_behind [] (codes ",") label_text labels ++ codes "}")

-- An inhibition rule and a firing alert, by their positions.
abbrev pub inhibitor_text : ℕ × ℕ → List ℕ
inhibitor_text found = decimal found.0 ++ (codes "/" ++ decimal found.1)

-- What is shown, as a text.
-- Source: own choice.
-- Example: the texts `a` and `b` are `"a","b"`. The routes `/0` and `/1` without matchers are
-- `/0 {}, /1 {}`. Two lists are `{team="db"} or {env="dev"}`.
abbrev pub shown_text : Shown → List ℕ
shown_text (Word w) = unbroken w
shown_text (Number n) = decimal n
shown_text (Name n) = name_text n
shown_text (Names ns) = texts_behind [] (codes ",") name_text ns
shown_text (Pointer p) = unbroken p
shown_text (Text t) = quoted_text t
shown_text (Texts ts) = texts_behind [] (codes ",") quoted_text ts
shown_text (Path p) = path_text p
shown_text (Labels ls) = labels_text ls
shown_text (Matchers ms) = matchers_text ms
shown_text (Lists ls) = texts_behind [] (codes " or ") matchers_text ls
shown_text (Routes rs) = texts_behind [] (codes ", ") shown_route_text rs
shown_text (Inhibitors is) = texts_behind [] (codes ",") inhibitor_text is

-- A line is its pieces, one behind the other, and a line feed. The text of a note has the word
-- `note` in front. A report is its lines and its last line.
-- Source: own choice.
-- Example: the words `# `, the number 2 and the words ` changes` are the line `# 2 changes`.
abbrev pub piece_text : Piece → List ℕ
piece_text (Words w) = unbroken w
piece_text (Value f shown) = shown_text shown

abbrev pub pieces_line : List Piece → List ℕ
pieces_line pieces = flat_map piece_text pieces ++ codes "\n"

abbrev pub mark_of : Level → List ℕ
mark_of level_is.Finding = []
mark_of level_is.Note = codes "note "
mark_of level_is.Plain = []

abbrev pub line_text : Line → List ℕ
line_text line = mark_of line.level ++ pieces_line line.pieces

abbrev pub report_text : Report → List ℕ
report_text r = flat_map line_text r.lines ++ pieces_line r.last

-- ---- Findings and notes.

abbrev pub is_finding_level : Level → Bool
is_finding_level level_is.Finding = true
is_finding_level level_is.Note = false
is_finding_level level_is.Plain = false

abbrev pub is_note_level : Level → Bool
is_note_level level_is.Finding = false
is_note_level level_is.Note = true
is_note_level level_is.Plain = false

-- The number of findings among some lines, and that of notes.
abbrev pub count_findings : List Line → ℕ
count_findings lines = count_by (λ line. is_finding_level line.level) lines

abbrev pub count_notes : List Line → ℕ
count_notes lines = count_by (λ line. is_note_level line.level) lines
