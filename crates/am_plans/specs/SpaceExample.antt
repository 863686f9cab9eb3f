-- A worked example of verdicts in a space: two labels, and one list that is impossible.
use Rattle.std.specs.Prelude.{List, [], ◌∷◌, Some, None, codes}
use Rattle.am_universe.specs.Universe.{Label}
use Rattle.am_labels.specs.Space.{Space}
use Rattle.am_labels.specs.Matcher.{Matcher}
use Rattle.am_labels.specs.declared.op.Op.TheVariants.{Equal}

-- The label `team`, which may be `db`, `web` or absent, and the label `severity`, which may be
-- `critical` or `warning`.
abbrev pub team : Label
team = record {
  name = codes "team";
  values = Some (codes "db") ∷ Some (codes "web") ∷ None ∷ [];
}

abbrev pub severity : Label
severity = record {
  name = codes "severity";
  values = Some (codes "critical") ∷ Some (codes "warning") ∷ [];
}

-- The list `team="web",severity="critical"`.
abbrev pub web_critical : List Matcher
web_critical =
    record { name = codes "team"; op = Equal; value = codes "web" }
    ∷ record { name = codes "severity"; op = Equal; value = codes "critical" } ∷ []

-- The space of the two labels in which that list is impossible.
abbrev pub without_web_critical : Space
without_web_critical =
    record { labels = team ∷ severity ∷ []; impossible = web_critical ∷ [] }
