-- The ordinary alerts that have an alertname. (This project's own.)
use Rattle.std.specs.Prelude.{◌≢◌, List, [], ◌∷◌, codes}
use Rattle.am_universe.specs.LabelSet.{LabelMap, value_of}
use Rattle.am_labels.specs.declared.op.Op.TheVariants.{NotEqual}
use Rattle.am_labels.specs.Matcher.{Matcher}
use Rattle.am_labels.specs.Space.{Space}
use Rattle.am_classes.specs.declared.alphabet.Alphabet.TheVariants.{Ascii}
use Rattle.am_every_alert.specs.EveryAlert.{IsAlertOf}

-- A label set has an alertname: the value of the label `alertname` is not empty.
-- Source: Prometheus configuration, "Alerting rules": the name of an alerting rule is the value of
-- the label `alertname` of each of its alerts.
-- Example: `{alertname="Watchdog"}` has one, and `{team="db"}` has none.
abbrev pub HasAlertname : LabelMap → Type 0
HasAlertname set = value_of set (codes "alertname") ≢ []

-- A named alert of a space: an ordinary alert that has an alertname, and that no impossible list
-- matches. An ordinary alert has values of printable ASCII alone, so it counts over each alphabet.
-- Source: own choice: each alert that Prometheus sends has an alertname.
-- Example: if nothing is impossible, `{alertname="Watchdog"}` is one. `{team="db"}` is not, and
-- `{alertname="é"}` is not.
abbrev pub IsNamedAlert : Space → LabelMap → Type 0
IsNamedAlert s set = IsAlertOf Ascii s set × HasAlertname set

-- The list of the one matcher `alertname!=""`, which matches a label set exactly if it has an
-- alertname.
abbrev pub named_matchers : List Matcher
named_matchers = record { name = codes "alertname"; op = NotEqual; value = [] } ∷ []
