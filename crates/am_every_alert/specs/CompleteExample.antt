-- Examples of universes with one label: which of them are complete for `team="db"`, and over which
-- alphabet one is complete for `team=~".*"`.
use Rattle.std.specs.Prelude.{List, [], ◌∷◌, Some, None, codes}
use Rattle.am_universe.specs.Universe.{Label, Values}
use Rattle.am_labels.specs.declared.op.Op.TheVariants.{NotEqual, Matches}
use Rattle.am_labels.specs.Matcher.{Matcher}
use Rattle.am_labels.specs.Space.{Space}

-- The universe whose only label, `team`, may have these values.
abbrev pub team_universe : Values → List Label
team_universe values = record { name = codes "team"; values = values } ∷ []

-- The values of `team` in the examples: `db` and absence, and just `db`.
abbrev pub db_or_absent : Values
db_or_absent = Some (codes "db") ∷ None ∷ []

abbrev pub db_alone : Values
db_alone = Some (codes "db") ∷ []

-- The space in which `team` is always `db`, since all else is impossible.
abbrev pub team_not_db : Matcher
team_not_db = record { name = codes "team"; op = NotEqual; value = codes "db" }

abbrev pub db_alone_possible : Space
db_alone_possible =
    record { labels = team_universe db_alone; impossible = (team_not_db ∷ []) ∷ [] }

-- A matcher on `team` that is true of every text without a line feed; and the values of `team` in
-- the example in which it is always absent.
abbrev pub any_line : Matcher
any_line = record { name = codes "team"; op = Matches; value = codes ".*" }

abbrev pub absent_alone : Values
absent_alone = None ∷ []
