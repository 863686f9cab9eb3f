-- How label sets arrive at a route, if only those that occur count.
use Rattle.std.specs.Prelude.{◌≡◌, ℕ, List, true}
use Rattle.am_universe.specs.Universe.{Label, sizes}
use Rattle.am_universe.specs.Choice.{IsWhole}
use Rattle.am_universe.specs.LabelSet.{LabelMap, label_set_of}
use Rattle.am_config.specs.ConfigFile.{Configuration}
use Rattle.am_first_sets.specs.Budget.{looks_of}
use Rattle.am_first_sets.specs.Looks.{is_limit}
use Rattle.am_lint.specs.declared.arrival.Cause.{Cause}
use Rattle.am_lint.specs.declared.arrival.Cause.TheVariants as cause_is
use Rattle.am_lint.specs.declared.arrival.Arrival.{Arrival}
use Rattle.am_lint.specs.declared.arrival.Arrival.TheVariants as arrival_is
use Rattle.am_eval.specs.Reaching.{EndsAt, Enters, IsDead, IsNeverEntered}
use Rattle.am_lint.specs.Reasons.{IsExcludedBy, IsTakenBy, IsHandedTo}

-- A whole choice of some labels: its label set occurs and has a property.
abbrev pub IsSeenBy :
    List Label → (LabelMap → Type 0) → (LabelMap → Type 0) → List ℕ → Type 0
IsSeenBy u Occurs Is choice =
    IsWhole (sizes u) choice × Occurs (label_set_of u choice) × Is (label_set_of u choice)

-- These routes, with this cause, are the reason why no alert enters the route at a path.
abbrev pub IsReasonFor :
    (LabelMap → Type 0) → Configuration → List ℕ → Cause → List (List ℕ) → Type 0
IsReasonFor Occurs c path cause_is.Excluded routes = IsExcludedBy Occurs c path routes
IsReasonFor Occurs c path cause_is.Taken routes = IsTakenBy Occurs c path routes

-- How label sets arrive at the route at a path. The label set of this choice ends there. Or that of
-- the choice `entry` enters the route, none ends there, and these children take all. Or none enters
-- it, and these routes are to blame. Or it is not known, since as many masks were looked at as a
-- limit allows.
-- Source: own choice.
-- Example: a route whose one child has no matchers hands on to that child.
abbrev pub IsArrival :
    List Label → (LabelMap → Type 0) → Configuration → List ℕ → Arrival → Type 0
IsArrival u Occurs c path (arrival_is.Ends choice) = IsSeenBy u Occurs (EndsAt c path) choice
IsArrival u Occurs c path (arrival_is.HandsOn entry children) =
    IsSeenBy u Occurs (Enters c path) entry
    × IsDead Occurs c path × IsHandedTo Occurs c path children.items
IsArrival u Occurs c path (arrival_is.NeverEntered reason) =
    IsNeverEntered Occurs c path × IsReasonFor Occurs c path reason.cause reason.routes.items
IsArrival u Occurs c path (arrival_is.Undecided evidence) = is_limit (looks_of evidence) ≡ true
