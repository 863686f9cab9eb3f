-- The lines that are written about a universe that is checked. (This project's own.)
use Rattle.std.specs.Prelude.{ℕ, ◌*◌, ◌^◌, List, [], ◌∷◌, ◌++◌, map, Bool, if◌then◌else◌, codes}
use Rattle.std.specs.Prelude.{string_bytes, nat_lt}
use Rattle.std.specs.List.{list_all}
use Rattle.am_universe.specs.Place.{place_text}
use Rattle.am_universe.specs.Universe.{is_label_name}
use Rattle.am_report_texts.specs.Line.{Line, Piece, Report, Shown, Words, Value, Word, Number, Text}
use Rattle.am_report_texts.specs.Line.{Pointer}
use Rattle.am_report_texts.specs.declared.lines.Field.TheVariants as field_is
use Rattle.am_report_texts.specs.declared.lines.Level.TheVariants as level_is
use Rattle.am_complete.specs.declared.label_state.Completeness.{Completeness}
use Rattle.am_complete.specs.declared.label_state.Completeness.TheVariants as state_is
use Rattle.am_complete.specs.declared.label_state.LabelState.{LabelState}
use Rattle.am_complete.specs.LabelState.{is_settled}
use Rattle.am_asked.specs.OriginPointer.{origin_place, origin_pointer}

-- The name of a label: as it is if it is a label name, and else in quotes. And a text that the
-- label lacks: in quotes, or `absent` for the empty text.
abbrev pub shown_label : List ℕ → Shown
shown_label name = if is_label_name name then Word name else Text name

abbrev pub lacking_piece : List ℕ → Piece
lacking_piece [] = Words (codes "absent")
lacking_piece (c ∷ cs) = Value field_is.Lacks (Text (c ∷ cs))

-- The state of a label.
abbrev pub state_piece : List ℕ → Piece
state_piece word = Value field_is.State (Word word)

abbrev pub state_pieces : Completeness → List Piece
state_pieces (state_is.Complete classes) =
    state_piece (codes "complete") ∷ Words (codes " ") ∷ Value field_is.Classes (Number classes)
    ∷ []
state_pieces (state_is.Lacks text) =
    state_piece (codes "lacks") ∷ Words (codes " ") ∷ lacking_piece (string_bytes text) ∷ []
state_pieces state_is.Unasked = state_piece (codes "unasked") ∷ []
state_pieces state_is.Undeclarable = state_piece (codes "undeclarable") ∷ []
state_pieces (state_is.Unproved origin) =
    state_piece (codes "unproved") ∷ Words (codes " ")
    ∷ Value field_is.Place (Word (place_text (origin_place origin))) ∷ Words (codes " ")
    ∷ Value field_is.Pointer (Pointer (origin_pointer origin)) ∷ []

abbrev pub unseen_words : Bool → List ℕ
unseen_words unseen = if unseen then codes " unseen" else []

-- The line of a label.
-- Source: own choice.
-- Example: `team complete 3`, `severity lacks absent unseen`, `"a/b" undeclarable` and
-- `env unproved config /route/routes/1` are four such lines.
abbrev pub plain_line : List Piece → Line
plain_line pieces = record { level = level_is.Plain; pieces = pieces }

abbrev pub state_line : LabelState → Line
state_line state = plain_line (Value field_is.Label (shown_label (string_bytes state.name))
    ∷ Words (codes " ")
    ∷ (state_pieces state.completeness ++ Words (unseen_words state.unseen) ∷ []))

-- The number of label sets, impossible ones included, for labels with these numbers of values; and
-- the line that has this number and says whether all are impossible. A number of 2^64 or more is
-- not written.
-- Source: own choice.
-- Example: for three labels with 3, 3 and 10 values the number is 90, and the line is
-- `90 label sets`. If none of them is possible, it is `90 label sets, all impossible`.
abbrev pub label_sets : List ℕ → ℕ
label_sets [] = 1
label_sets (size ∷ sizes) = size * label_sets sizes

abbrev pub label_sets_pieces : ℕ → List Piece
label_sets_pieces count =
    if nat_lt count (2 ^ 64)
    then Value field_is.LabelSets (Number count) ∷ Words (codes " label sets") ∷ []
    else Words (codes "more than 18446744073709551615 label sets") ∷ []

abbrev pub all_impossible_words : Bool → List ℕ
all_impossible_words all_impossible = if all_impossible then codes ", all impossible" else []

abbrev pub count_line : ℕ → Bool → Line
count_line count all_impossible = plain_line
    (label_sets_pieces count ++ Words (all_impossible_words all_impossible) ∷ [])

-- The last line: whether nothing is missing.
abbrev pub verdict_words : List LabelState → List ℕ
verdict_words states =
    if list_all (λ state. is_settled state.completeness) states then codes "# complete"
    else codes "# incomplete"

-- The report: a line for each label, the number of label sets and whether all are impossible, and
-- the verdict.
-- Source: own choice.
-- Example: for a universe without labels, and no matchers, it is `1 label sets` and `# complete`.
abbrev pub check_report : List ℕ → Bool → List LabelState → Report
check_report sizes all_impossible states = record {
  lines = map state_line states ++ count_line (label_sets sizes) all_impossible ∷ [];
  last = Words (verdict_words states) ∷ [];
}
