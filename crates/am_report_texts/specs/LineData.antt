-- Reports as JSON. (This project's own.)
use Rattle.std.specs.Prelude.{ℕ, List, [], ◌∷◌, ◌++◌, map, codes}
use Rattle.std.specs.List.{flat_map}
use Rattle.serde_json.specs.Data.{Data, Members, no_members, number, string, array, object, put}
use Rattle.serde_json.specs.Data.{unsigned}
use Rattle.serde_json.specs.View.{items_of}
use Rattle.am_labels.specs.Matcher.{Matcher}
use Rattle.am_config.specs.Path.{path_text}
use Rattle.am_report_texts.specs.declared.lines.Field.{Field}
use Rattle.am_report_texts.specs.declared.lines.Field.TheVariants as field_is
use Rattle.am_report_texts.specs.declared.lines.Level.{Level}
use Rattle.am_report_texts.specs.declared.lines.Level.TheVariants as level_is
use Rattle.am_report_texts.specs.MatchersText.{matcher_text}
use Rattle.am_report_texts.specs.Line.{Shown, ShownRoute, Piece, Line, Report}
use Rattle.am_report_texts.specs.Line.{Word, Number, Name, Names, Pointer, Text, Texts, Path}
use Rattle.am_report_texts.specs.Line.{Labels, Matchers, Lists, Routes, Inhibitors, Words}
use Rattle.am_report_texts.specs.Line.{Value}

-- An object gets members, in their order. A later one takes the place of one with the same name.
abbrev pub with_members : Members → List (List ℕ × Data) → Members
with_members ms [] = ms
with_members ms (m ∷ rest) = with_members (put m.0 m.1 ms) rest

abbrev pub object_of : List (List ℕ × Data) → Data
object_of members = object (with_members no_members members)

abbrev pub array_of : {X : Type 0} → (X → Data) → List X → Data
array_of data_of xs = array (items_of (map data_of xs))

-- The name of a piece in JSON.
abbrev pub field_name : Field → List ℕ
field_name field_is.Alert = codes "alert"
field_name field_is.Alerts = codes "alerts"
field_name field_is.Below = codes "below"
field_name field_is.Changes = codes "changes"
field_name field_is.Classes = codes "classes"
field_name field_is.Equal = codes "equal"
field_name field_is.Findings = codes "findings"
field_name field_is.Gains = codes "gains"
field_name field_is.Group = codes "group"
field_name field_is.Impossible = codes "impossible"
field_name field_is.Inhibited = codes "inhibited"
field_name field_is.Intervals = codes "intervals"
field_name field_is.Kind = codes "kind"
field_name field_is.Label = codes "label"
field_name field_is.Labels = codes "labels"
field_name field_is.LabelSets = codes "label_sets"
field_name field_is.Lacks = codes "lacks"
field_name field_is.Losses = codes "losses"
field_name field_is.Matchers = codes "matchers"
field_name field_is.Name = codes "name"
field_name field_is.New = codes "new"
field_name field_is.Notes = codes "notes"
field_name field_is.Old = codes "old"
field_name field_is.Options = codes "options"
field_name field_is.Others = codes "others"
field_name field_is.Part = codes "part"
field_name field_is.Path = codes "path"
field_name field_is.Pattern = codes "pattern"
field_name field_is.Place = codes "place"
field_name field_is.Pointer = codes "pointer"
field_name field_is.Question = codes "question"
field_name field_is.Reason = codes "reason"
field_name field_is.Receiver = codes "receiver"
field_name field_is.Receivers = codes "receivers"
field_name field_is.Routes = codes "routes"
field_name field_is.Rule = codes "rule"
field_name field_is.Rules = codes "rules"
field_name field_is.Shown = codes "shown"
field_name field_is.Silence = codes "silence"
field_name field_is.Silenced = codes "silenced"
field_name field_is.Similar = codes "similar"
field_name field_is.Source = codes "source"
field_name field_is.State = codes "state"
field_name field_is.Target = codes "target"
field_name field_is.Unless = codes "unless"
field_name field_is.Value = codes "value"

-- A path is shown as its text and as its positions.
abbrev pub number_data : ℕ → Data
number_data n = number (unsigned n)

abbrev pub path_members : List ℕ → List ℕ → List (List ℕ × Data)
path_members name path =
    (name, string (path_text path)) ∷ (codes "positions", array_of number_data path) ∷ []

abbrev pub matchers_data : List Matcher → Data
matchers_data ms = array_of (λ m. string (matcher_text m)) ms

-- The word for what is said of something, if it has one.
abbrev pub kind_members : List ℕ → List (List ℕ × Data)
kind_members [] = []
kind_members (c ∷ cs) = (codes "kind", string (c ∷ cs)) ∷ []

abbrev pub route_data : ShownRoute → Data
route_data r = object_of (path_members (codes "path") r.path
    ++ (codes "matchers", matchers_data r.matchers) ∷ kind_members r.kind)

abbrev pub inhibitor_data : ℕ × ℕ → Data
inhibitor_data found = object_of
    ((codes "rule", number_data found.0) ∷ (codes "alert", number_data found.1) ∷ [])

-- The members of something that is shown under a name.
-- Source: own choice.
-- Example: a path `/0/2` under `path` is `"path":"/0/2"` and `"positions":[0,2]`; the label set
-- `{team="db"}` under `labels` is `"labels":{"team":"db"}`.
abbrev pub shown_members : List ℕ → Shown → List (List ℕ × Data)
shown_members name (Word w) = (name, string w) ∷ []
shown_members name (Number n) = (name, number_data n) ∷ []
shown_members name (Name n) = (name, string n) ∷ []
shown_members name (Names ns) = (name, array_of string ns) ∷ []
shown_members name (Pointer p) = (name, string p) ∷ []
shown_members name (Text t) = (name, string t) ∷ []
shown_members name (Texts ts) = (name, array_of string ts) ∷ []
shown_members name (Path p) = path_members name p
shown_members name (Labels ls) =
    (name, object_of (map (λ label. (label.0, string label.1)) ls)) ∷ []
shown_members name (Matchers ms) = (name, matchers_data ms) ∷ []
shown_members name (Lists ls) = (name, array_of matchers_data ls) ∷ []
shown_members name (Routes rs) = (name, array_of route_data rs) ∷ []
shown_members name (Inhibitors is) = (name, array_of inhibitor_data is) ∷ []

abbrev pub piece_members : Piece → List (List ℕ × Data)
piece_members (Words w) = []
piece_members (Value field shown) = shown_members (field_name field) shown

-- Whether a line is a finding or a note, in a report that tells these apart.
abbrev pub level_members : Level → List (List ℕ × Data)
level_members level_is.Finding = (codes "level", string (codes "finding")) ∷ []
level_members level_is.Note = (codes "level", string (codes "note")) ∷ []
level_members level_is.Plain = []

-- A line as an object, and a report: its lines under `lines`, and what its last line says.
-- Source: own choice.
-- Example: a report without lines that ends in `# 0 changes` is `{"changes":0,"lines":[]}`.
abbrev pub line_data : Line → Data
line_data l = object_of (level_members l.level ++ flat_map piece_members l.pieces)

abbrev pub report_data : Report → Data
report_data r =
    object_of ((codes "lines", array_of line_data r.lines) ∷ flat_map piece_members r.last)
