-- Silences, and which JSON value says which. (The format that `amtool silence query -o json` writes
-- and `amtool silence import` reads. The limits, and which fields are ignored, are this project's
-- own.)
use Rattle.std.specs.Prelude.{◌≡◌, ◌≢◌, ◌≤◌, ℕ, ℤ, List, [], length, Bool, true, false, IsTrue}
use Rattle.std.specs.Prelude.{Some, option_and_then, codes}
use Rattle.std.specs.List.{AllZip}
use Rattle.serde_json.specs.Data.{Data, string}
use Rattle.am_labels.specs.declared.limits.TheConstants.{MAX_MATCHERS}
use Rattle.am_labels.specs.Matcher.{Matcher}
use Rattle.am_labels.specs.MatcherRefusals.{has_valid_pattern}
use Rattle.am_labels.specs.declared.op.Op.{Op}
use Rattle.am_labels.specs.declared.op.Op.TheVariants.{Equal, NotEqual, Matches, NotMatches}
use Rattle.am_list_files.specs.declared.limits.TheConstants.{MAX_SILENCES}
use Rattle.am_json.specs.Json.{FileSays, field, items_of, SaysBooleanOr}
use Rattle.am_json.specs.OptionalItems.{SaysItemsOrNull}
use Rattle.am_list_files.specs.Instant.{instant_of}

-- A silence: its matchers, and the instants at which it begins and ends, in nanoseconds since
-- 1970-01-01T00:00:00Z.
pub record Silence : Type 0 where
  pub matchers : List Matcher
  pub starts : ℤ
  pub ends : ℤ

-- The operator of a matcher of a silence. `isRegex` says whether the value is a pattern or a text.
-- `isEqual` says whether the label must match the value, or must not.
-- Source: Alertmanager API v2, "matcher": `isRegex` and `isEqual`.
-- Example: if both are true, the operator is `=~`. If both are false, it is `!=`.
abbrev pub flagged_op : Bool → Bool → Op
flagged_op false true = Equal
flagged_op false false = NotEqual
flagged_op true true = Matches
flagged_op true false = NotMatches

-- A JSON value says a matcher: it is an object with a name, which is not empty, a value, and two
-- truth values, which say the operator. If the operator takes a pattern, the value is a valid one.
-- Source: Alertmanager API v2, "matcher". Own choice: `isRegex` is optional too, and false if it is
-- absent; which patterns are valid.
-- Example: `{"name": "team", "value": "db|web", "isRegex": true}` says `team=~"db|web"`. With
-- `"isEqual": false` beside it, it says `team!~"db|web"`.
pub record SaysSilenceMatcher (d : Data) (m : Matcher) : Type 0 where
  pub name : field (codes "name") d ≡ Some (string m.name)
  pub named : m.name ≢ []
  pub value : field (codes "value") d ≡ Some (string m.value)
  pub is_regex : Bool
  pub regex : SaysBooleanOr false (codes "isRegex") d is_regex
  pub is_equal : Bool
  pub equal : SaysBooleanOr true (codes "isEqual") d is_equal
  pub op : m.op ≡ flagged_op is_regex is_equal
  pub valid_pattern : IsTrue (has_valid_pattern m)

-- A field has a text that says an instant.
abbrev pub SaysInstant : List ℕ → Data → ℤ → Type 0
SaysInstant key d instant =
    (text : List ℕ) × (field key d ≡ Some (string text)) × (instant_of text ≡ Some instant)

-- A JSON value says a silence: it is an object with an array of 1 to `MAX_MATCHERS` matchers, and
-- two instants. Its other fields are ignored.
-- Source: Alertmanager API v2, "silence": `matchers`, of which there is at least one, `startsAt`
-- and `endsAt`. Own choice: there are at most `MAX_MATCHERS`; `id`, `status`, `updatedAt`,
-- `createdBy` and `comment` are optional and ignored.
-- Example: `{"matchers": [], "startsAt": "2024-05-01T10:00:00Z", "endsAt": "2024-05-01T11:00:00Z"}`
-- says none, since it has no matcher.
pub record SaysSilence (d : Data) (s : Silence) : Type 0 where
  pub items : List Data
  pub is_array : option_and_then items_of (field (codes "matchers") d) ≡ Some items
  pub some : items ≢ []
  pub few : length items ≤ MAX_MATCHERS
  pub matchers : AllZip SaysSilenceMatcher items s.matchers
  pub starts : SaysInstant (codes "startsAt") d s.starts
  pub ends : SaysInstant (codes "endsAt") d s.ends

-- A JSON value says a list of silences: it is an array of at most `MAX_SILENCES` items, each of
-- which says the silence at its position. `null` says the empty list.
-- Source: Alertmanager API v2, "gettableSilences". Own choice: the limit, and that `null` says the
-- empty list.
-- Example: `[]` and `null` say the empty list, and `{}` says no list.
abbrev pub SaysSilences : Data → List Silence → Type 0
SaysSilences d silences = SaysItemsOrNull SaysSilence MAX_SILENCES d silences

-- The bytes of a file, at most `MAX_FILE_BYTES`, say the silences that their JSON value says.
abbrev pub FileSaysSilences : List ℕ → List Silence → Type 0
FileSaysSilences bytes silences = FileSays SaysSilences bytes silences
