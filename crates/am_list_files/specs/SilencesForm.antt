-- The form of an export of silences, and its first fault. (The form that
-- `amtool silence query -o json` writes; the order and the limits are this project's own.)
use Rattle.std.specs.Prelude.{◌≡◌, ℕ, zero, suc, ℤ, pos, List, [], length, Option, Some, true}
use Rattle.std.specs.Prelude.{false, codes}
use Rattle.serde_json.specs.Data.{Data}
use Rattle.am_universe.specs.declared.kind.Kind.{Kind}
use Rattle.am_universe.specs.declared.kind.Kind.TheVariants as kinds
use Rattle.am_labels.specs.declared.limits.TheConstants.{MAX_MATCHERS}
use Rattle.am_labels.specs.Matcher.{Matcher}
use Rattle.am_labels.specs.declared.op.Op.{Op}
use Rattle.am_list_files.specs.declared.limits.TheConstants.{MAX_SILENCES}
use Rattle.am_json.specs.Objections.{first_fault, IsRefusedFor, limit_fault}
use Rattle.am_json.specs.Pointer.{Refusal, refusal_here, to_field}
use Rattle.am_json.specs.Reading.{Form, Reading, ◌>>=◌, accept, accept_or, reading_within}
use Rattle.am_json.specs.Reading.{refuse_for}
use Rattle.am_json.specs.Reading.{read_items, read_items_or_null, as_object}
use Rattle.am_json.specs.Reading.{required_text, required_items, read_boolean_or, read_json}
use Rattle.am_list_files.specs.MatcherFaults.{label_name_fault, check_matcher}
use Rattle.am_list_files.specs.Instant.{instant_of}
use Rattle.am_list_files.specs.SilencesFile.{Silence, flagged_op}

-- The name of a label, which is not empty.
unfoldable pub label_name_form : Form Data (List ℕ)
label_name_form d = do
  name ← required_text (codes "name") d
  _ ← reading_within (to_field (codes "name")) (refuse_for (label_name_fault name))
  accept name

-- A matcher of these parts. Its pattern is refused at the field `value`.
abbrev pub flagged_matcher_form : List ℕ → Op → List ℕ → Reading Matcher
flagged_matcher_form name op value =
    reading_within (to_field (codes "value"))
    (check_matcher (record { name = name; op = op; value = value }))

-- A matcher of a silence. Its other fields are not read.
unfoldable pub silence_matcher_form : Form Data Matcher
silence_matcher_form d = do
  _ ← as_object d
  name ← label_name_form d
  value ← required_text (codes "value") d
  is_regex ← read_boolean_or false (codes "isRegex") d
  is_equal ← read_boolean_or true (codes "isEqual") d
  flagged_matcher_form name (flagged_op is_regex is_equal) value

-- What is wrong with the number of matchers of a silence: there are none, or too many.
abbrev pub matcher_count_fault : ℕ → Option Kind
matcher_count_fault zero = Some kinds.Empty
matcher_count_fault (suc count) = limit_fault MAX_MATCHERS (suc count)

-- The matchers of a silence.
unfoldable pub silence_matchers_form : Form (List Data) (List Matcher)
silence_matchers_form items = do
  _ ← refuse_for (matcher_count_fault (length items))
  read_items (λ before item. silence_matcher_form item) [] items

-- The instant that a text says.
abbrev pub instant_form : Form (List ℕ) ℤ
instant_form text = accept_or (pos 0) (instant_of text) (refusal_here kinds.BadTime)

-- The instant in a required field.
unfoldable pub required_instant_form : List ℕ → Data → Reading ℤ
required_instant_form key d = do
  text ← required_text key d
  reading_within (to_field key) (instant_form text)

-- A silence. Its other fields are not read.
unfoldable pub silence_form : Form Data Silence
silence_form d = do
  _ ← as_object d
  items ← required_items (codes "matchers") d
  matchers ← reading_within (to_field (codes "matchers")) (silence_matchers_form items)
  starts ← required_instant_form (codes "startsAt") d
  ends ← required_instant_form (codes "endsAt") d
  accept (record { matchers = matchers; starts = starts; ends = ends })

-- The silences of a value.
abbrev pub silences_form : Form Data (List Silence)
silences_form d = read_items_or_null MAX_SILENCES silence_form d

-- The silences of the bytes of a file.
unfoldable pub silences_file_form : Form (List ℕ) (List Silence)
silences_file_form bytes = do
  d ← read_json bytes
  silences_form d

-- ---- The first fault.

-- The refusal is the first fault of a JSON value, or of the bytes of a file.
abbrev pub IsFirstFaultOfSilences : Data → Refusal → Type 0
IsFirstFaultOfSilences d r = first_fault (silences_form d).objections ≡ Some r

abbrev pub IsFirstFaultOfSilencesFile : List ℕ → Refusal → Type 0
IsFirstFaultOfSilencesFile bytes r = first_fault (silences_file_form bytes).objections ≡ Some r

-- What a file may be refused for: its first fault, or a pattern with no fault before it.
abbrev pub SilencesFileRefusedFor : List ℕ → Refusal → Type 0
SilencesFileRefusedFor bytes r = IsRefusedFor (silences_file_form bytes).objections r
