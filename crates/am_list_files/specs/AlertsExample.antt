-- A worked example of an export of alerts: one alert with two labels, one of them empty, and what
-- it says.
use Rattle.std.specs.Prelude.{List, [], ◌∷◌, codes}
use Rattle.std.specs.FinMap.{from_entries}
use Rattle.serde_json.specs.Data.{Data, string, array, object, no_items, item, no_members, member}
use Rattle.am_universe.specs.LabelSet.{LabelMap}

-- The JSON value of the alert, whose label `region` has the empty text; and that of the file.
abbrev pub alert_example : Data
alert_example = object
    (member (codes "labels")
    (object
    (member (codes "region") (string [])
    (member (codes "team") (string (codes "db")) no_members))) no_members)

abbrev pub alerts_example : Data
alerts_example = array (item alert_example no_items)

-- What they say: the alert `{team="db"}`.
abbrev pub example_alerts : List LabelMap
example_alerts = from_entries ((codes "team", codes "db") ∷ []) ∷ []
