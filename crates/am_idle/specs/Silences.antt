-- What is said of silences, and when it is true of all alerts. (This project's own.)
use Rattle.std.specs.Prelude.{◌≡◌, ◌⊎◌, ℕ, List, [], ◌∷◌, Bool, not, ◌&&◌, Option, Some, None}
use Rattle.std.specs.Prelude.{IsTrue, IsFalse, slice_get, take, true, false}
use Rattle.std.specs.List.{list_any, AllByRecursion}
use Rattle.am_universe.specs.declared.kind.Kind.{Kind}
use Rattle.am_universe.specs.declared.kind.Kind.TheVariants as kinds
use Rattle.am_universe.specs.LabelSet.{LabelMap}
use Rattle.am_universe.specs.Universe.{Label}
use Rattle.am_labels.specs.Space.{Space}
use Rattle.am_list_files.specs.SilencesFile.{Silence}
use Rattle.am_eval.specs.World.{World}
use Rattle.am_eval.specs.Silencing.{is_active, is_over, hides}
use Rattle.am_labels.specs.Matcher.{Matcher}
use Rattle.am_classes.specs.declared.alphabet.Alphabet.{Alphabet}
use Rattle.am_classes.specs.declared.alphabet.Alphabet.TheVariants.{Ascii}
use Rattle.am_every_alert.specs.EveryAlert.{IsAlertOf}
use Rattle.am_first_sets.specs.Budget.{looks_of}
use Rattle.am_first_sets.specs.Looks.{is_limit}
use Rattle.am_idle.specs.declared.silences.SilenceFinding.{SilenceFinding}
use Rattle.am_idle.specs.declared.silences.SilenceFinding.TheVariants as finding_is
use Rattle.am_idle.specs.Lists.{StandsForLists, IsRefusalForLists}
use Rattle.am_idle.specs.Extent.{MatchesNone, MatchesOne, MatchesAll, MatchesNotAll}
use Rattle.am_idle.specs.NamedAlerts.{IsNamedAlert, named_matchers}

-- A silence is unused in a world: it is active, and hides none of the alerts that fire. None is
-- unused if these alerts are not known.
-- Source: own choice.
-- Example: an active silence with `team="ops"` is unused if only `{team="db"}` fires. One that has
-- not begun is not.
abbrev pub is_unused : World → Option (List LabelMap) → Silence → Bool
is_unused w None silence = false
is_unused w (Some alerts) silence =
    is_active w.instant silence && not (list_any (λ alert. hides w alert silence) alerts)

-- It is not known which alerts a list of matchers matches, because no universe is made. Over the
-- alphabet it could not be computed which texts of a label the list and the impossible lists tell
-- apart. Or some alert matches the list, but no universe is made for the ordinary alerts that have
-- an alertname.
-- Source: own choice.
-- Example: it may not be known for `team=~"\bdb"`.
abbrev pub IsNotKnown : Alphabet → Space → List Matcher → Type 0
IsNotKnown a s ms =
    IsRefusalForLists a s (ms ∷ []) kinds.Unproved
    ⊎ (MatchesOne (IsAlertOf a s) ms
    × ((kind : Kind) × IsRefusalForLists Ascii s (ms ∷ named_matchers ∷ []) kind))

-- What is said of a silence is true. Nothing is said if it is over. Otherwise it is idle if no
-- alert that counts meets all its matchers. It is all if each ordinary alert that has an alertname
-- does, and there is one. If some alert that counts does, and not all of these do, nothing is said,
-- unless the silence is unused: then that is said. It is unproved if it is not known which alerts
-- do. It is undecided if as many masks were looked at as a limit allows. The alerts are those of a
-- file, if one is given.
-- Source: Alertmanager documentation 0.25, "Silences". Own choice: what is said of a silence that
-- has not begun is what will be true; if no alert is possible at all, a silence is idle.
-- Alertmanager takes no silence whose matchers all match the empty text. So a silence that hides
-- what it can is one that hides each alert with a name.
-- Example: a silence with `team="db"` and `team="web"` is idle; one with `alertname=~".+"` is all.
abbrev pub IsSilenceFinding :
    Alphabet → Space → World → Option (List LabelMap) → Silence → Option SilenceFinding → Type 0
IsSilenceFinding a s w alerts silence None =
    IsTrue (is_over w.instant silence)
    ⊎ (MatchesOne (IsAlertOf a s) silence.matchers
    × MatchesNotAll (IsNamedAlert s) silence.matchers × IsFalse (is_unused w alerts silence))
IsSilenceFinding a s w alerts silence (Some finding_is.Idle) =
    IsFalse (is_over w.instant silence) × MatchesNone (IsAlertOf a s) silence.matchers
IsSilenceFinding a s w alerts silence (Some finding_is.All) =
    IsFalse (is_over w.instant silence) × MatchesAll (IsNamedAlert s) silence.matchers
IsSilenceFinding a s w alerts silence (Some finding_is.Unused) =
    IsFalse (is_over w.instant silence) × MatchesOne (IsAlertOf a s) silence.matchers
    × MatchesNotAll (IsNamedAlert s) silence.matchers × IsTrue (is_unused w alerts silence)
IsSilenceFinding a s w alerts silence (Some finding_is.Unproved) =
    IsFalse (is_over w.instant silence) × IsNotKnown a s silence.matchers
IsSilenceFinding a s w alerts silence (Some (finding_is.Undecided evidence)) =
    IsFalse (is_over w.instant silence) × (is_limit (looks_of evidence) ≡ true)

-- ---- Why none is said.

-- A silence is not refused: it is over; or there is a universe that stands for every alert, for its
-- matchers; or it is unproved.
-- Source: own choice.
-- Example: a silence with `team="db"` alone is not refused, if nothing is impossible.
abbrev pub IsAccepted : Alphabet → Space → World → Silence → Type 0
IsAccepted a s w silence =
    IsTrue (is_over w.instant silence)
    ⊎ (((u : List Label) × StandsForLists a s (silence.matchers ∷ []) u)
    ⊎ IsRefusalForLists a s (silence.matchers ∷ []) kinds.Unproved)

-- A silence is refused, as `limit`: it is not over, and there is no room for the labels that its
-- matchers and the impossible lists ask about.
-- Source: own choice.
-- Example: a silence with 65 matchers with `=`, each for a different label, is refused.
abbrev pub IsSilenceRefused : Alphabet → Space → World → Silence → Kind → Type 0
IsSilenceRefused a s w silence kind =
    IsFalse (is_over w.instant silence) × (kind ≡ kinds.Limit)
    × IsRefusalForLists a s (silence.matchers ∷ []) kind

-- The first silence that is refused is the one at a position.
-- Source: own choice.
-- Example: if the first of three silences is over and the second is refused, it is the one at 1.
pub record IsFirstRefused (a : Alphabet) (s : Space) (w : World) (position : ℕ) (kind : Kind)
    : Type 0 where
  pub silence : Silence
  pub there : slice_get w.silences position ≡ Some silence
  pub before : AllByRecursion (IsAccepted a s w) (take position w.silences)
  pub refused : IsSilenceRefused a s w silence kind
