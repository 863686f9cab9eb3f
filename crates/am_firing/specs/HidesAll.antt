-- Silences that hide all firing alerts of a receiver.
use Rattle.std.specs.Prelude.{ℕ, List, [], ◌∷◌, Bool, true, false, Option, Some, None}
use Rattle.std.specs.List.{list_all, filter}
use Rattle.am_universe.specs.LabelSet.{LabelMap}
use Rattle.am_list_files.specs.SilencesFile.{Silence}
use Rattle.am_eval.specs.World.{World}
use Rattle.am_eval.specs.Silencing.{hides}
use Rattle.am_idle.specs.declared.silences.SilenceFinding.{SilenceFinding}
use Rattle.am_idle.specs.declared.silences.SilenceFinding.TheVariants as finding_is
use Rattle.am_firing.specs.Unreached.{goes_to}

-- The firing alerts that go to the receiver at a position, in their order.
-- Source: Alertmanager configuration reference 0.25, "<route>": `receiver`.
-- Example: an alert that ends at two routes with this receiver is among them once.
abbrev pub alerts_of : World → ℕ → List LabelMap
alerts_of w receiver = filter (goes_to w.config receiver) w.alerts

-- A silence hides each of some alerts, and there is at least one.
-- Source: Alertmanager documentation 0.25, "Silences".
-- Example: a silence that is not active does not. Nor does any silence if there is no alert.
abbrev pub hides_each : World → Silence → List LabelMap → Bool
hides_each w silence [] = false
hides_each w silence (alert ∷ alerts) =
    list_all (λ hidden. hides w hidden silence) (alert ∷ alerts)

-- It is said of a silence over every alert that it hides each ordinary alert with an alertname.
abbrev pub is_all : Option SilenceFinding → Bool
is_all None = false
is_all (Some finding_is.Idle) = false
is_all (Some finding_is.All) = true
is_all (Some finding_is.Unused) = false
is_all (Some finding_is.Unproved) = false
is_all (Some (finding_is.Undecided evidence)) = false
