-- A worked example of an export of silences: one silence with two matchers, and what it says.
use Rattle.std.specs.Prelude.{ℕ, List, [], ◌∷◌, false, true, pos, codes}
use Rattle.serde_json.specs.Data.{Data, boolean, string, array, object, no_items, item, no_members}
use Rattle.serde_json.specs.Data.{member}
use Rattle.am_labels.specs.Matcher.{Matcher}
use Rattle.am_labels.specs.declared.op.Op.TheVariants.{Equal, NotMatches}
use Rattle.am_list_files.specs.SilencesFile.{Silence}

-- The values of the matchers. The first has no `isEqual`, and the second has any pattern.
abbrev pub team_json : Data
team_json = object
    (member (codes "isRegex") (boolean false)
    (member (codes "name") (string (codes "team"))
    (member (codes "value") (string (codes "db")) no_members)))

abbrev pub severity_json : List ℕ → Data
severity_json pattern = object
    (member (codes "isEqual") (boolean false)
    (member (codes "isRegex") (boolean true)
    (member (codes "name") (string (codes "severity"))
    (member (codes "value") (string pattern) no_members))))

-- The JSON value of the silence, from 10:00 to 11:00 in universal time, and that of the file.
abbrev pub silence_example : List ℕ → Data
silence_example pattern = object
    (member (codes "endsAt") (string (codes "2024-05-01T12:00:00+01:00"))
    (member (codes "matchers")
    (array (item team_json (item (severity_json pattern) no_items)))
    (member (codes "startsAt") (string (codes "2024-05-01T10:00:00Z")) no_members)))

abbrev pub silences_example : List ℕ → Data
silences_example pattern = array (item (silence_example pattern) no_items)

-- What they say: the matchers `team="db"` and `severity!~` with the pattern, and the two instants.
abbrev pub team_matcher : Matcher
team_matcher = record { name = codes "team"; op = Equal; value = codes "db" }

abbrev pub severity_matcher : List ℕ → Matcher
severity_matcher pattern =
    record { name = codes "severity"; op = NotMatches; value = pattern }

abbrev pub example_silences : List ℕ → List Silence
example_silences pattern = record {
  matchers = team_matcher ∷ severity_matcher pattern ∷ [];
  starts = pos 1714557600000000000;
  ends = pos 1714561200000000000;
} ∷ []
