-- What `lint` says of a route, and when that is true of all alerts.
use Rattle.std.specs.Prelude.{◌≡◌, ℕ, List, Option, Some, None, true}
use Rattle.am_universe.specs.Universe.{Label}
use Rattle.am_universe.specs.LabelSet.{LabelMap}
use Rattle.am_labels.specs.Space.{Space}
use Rattle.am_config.specs.ConfigFile.{Configuration}
use Rattle.am_first_sets.specs.Looks.{is_limit}
use Rattle.am_classes.specs.declared.alphabet.Alphabet.{Alphabet}
use Rattle.am_classes.specs.declared.alphabet.Alphabet.TheVariants.{Unicode, Ascii}
use Rattle.am_every_alert.specs.EveryAlert.{IsAlertOf}
use Rattle.am_lint.specs.declared.arrival.Cause.{Cause}
use Rattle.am_eval.specs.Reaching.{EndsAt, Enters, SomeIs, IsDead, IsNeverEntered}
use Rattle.am_lint.specs.Reasons.{IsHandedTo}
use Rattle.am_lint.specs.Arrival.{IsSeenBy, IsReasonFor}

-- What is said of a route. It is dead, for this reason. Or it is unusual: no ordinary alert enters
-- it, for this reason, but the label set of this choice does. Or it hands on to these children. Or
-- it is undecided, after this many looks: it is not known whether an alert ends there.
pub data Finding : Type 0 where
  Dead : Cause → List (List ℕ) → Finding
  Unusual : Cause → List (List ℕ) → List ℕ → Finding
  HandsOn : List (List ℕ) → Finding
  Undecided : ℕ → Finding

-- The alerts that count are those of a space over an alphabet: they may have any labels, but no
-- impossible list matches them. The ordinary ones of these have values of printable ASCII. With
-- `--ascii` only these count.
-- Source: own choice.
-- Example: with `--ascii` an alert whose team is a line feed does not count. Without it the alert
-- counts, unless an impossible list matches it.
abbrev pub IsOrdinary : Space → LabelMap → Type 0
IsOrdinary s = IsAlertOf Ascii s

-- What is said of the route at a path is true. Nothing is said if some ordinary alert ends there.
-- The route is dead if no alert that counts enters it. It is unusual if no ordinary alert enters it
-- but the alert that is shown does. It hands on if ordinary alerts enter it but none ends there.
-- It is undecided only after as many looks as a limit allows.
-- Source: own choice.
-- Example: a route without matchers, behind a sibling with `team=~".*"` and without `continue`, is
-- unusual. The pattern does not match a line feed, so an alert enters the route only if its team
-- has one. With `--ascii` the route is dead.
abbrev pub IsRouteFinding :
    Alphabet → Space → List Label → Configuration → List ℕ → Option Finding → Type 0
IsRouteFinding a s u c path None = SomeIs (IsOrdinary s) (EndsAt c path)
IsRouteFinding a s u c path (Some (Dead cause routes)) =
    IsNeverEntered (IsAlertOf a s) c path × IsReasonFor (IsAlertOf a s) c path cause routes
IsRouteFinding a s u c path (Some (Unusual cause routes entry)) =
    (a ≡ Unicode) × IsNeverEntered (IsOrdinary s) c path
    × IsReasonFor (IsOrdinary s) c path cause routes
    × IsSeenBy u (IsAlertOf a s) (Enters c path) entry
IsRouteFinding a s u c path (Some (HandsOn children)) =
    SomeIs (IsOrdinary s) (Enters c path) × IsDead (IsOrdinary s) c path
    × IsHandedTo (IsOrdinary s) c path children
IsRouteFinding a s u c path (Some (Undecided looks)) = is_limit looks ≡ true
