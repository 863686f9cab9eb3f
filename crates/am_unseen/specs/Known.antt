-- Whose label sets are known: those of firing alerts, or those that alerting rules fix.
use Rattle.std.specs.Prelude.{ℕ, List, length, codes, Option, is_some, Bool, true, ◌==◌}
use Rattle.std.specs.Prelude.{if◌then◌else◌}
use Rattle.am_universe.specs.LabelSet.{LabelMap}
use Rattle.am_unseen.specs.declared.known.Known.{Known}
use Rattle.am_unseen.specs.declared.known.Known.TheVariants as known_is

-- Whose label sets are known, given those of firing alerts and those that alerting rules fix; and
-- how a line says it.
-- Source: own choice.
-- Example: with a file of alerts alone it is said that `no alert has` a label.
abbrev pub known_of : List LabelMap → List LabelMap → Known
known_of alerts rules =
    if length rules == 0 then known_is.Alerts
    else if length alerts == 0 then known_is.Rules else known_is.Both

abbrev pub known_text : Known → List ℕ
known_text known_is.Alerts = codes "alert"
known_text known_is.Rules = codes "rule"
known_text known_is.Both = codes "alert or rule"

-- Whether an unseen name or value is told, by the most similar one that is known. If only alerting
-- rules are known, it is told if there is one.
-- Source: own choice: the alerts of a rule also have the labels of the series that it finds, which
-- nobody knows. So a name or a value that no rule fixes is told only if it looks misspelled.
-- Example: if the only rule fixes `team="db"`, `tema` is told and `instance` is not.
abbrev pub is_told : Known → Option (List ℕ) → Bool
is_told known_is.Alerts similar = true
is_told known_is.Rules similar = is_some similar
is_told known_is.Both similar = true
