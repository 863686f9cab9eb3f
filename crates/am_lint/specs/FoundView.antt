-- What contracts read from what was found of a route: what is said of it.
use Rattle.std.specs.Prelude.{◌≡◌, ◌<◌, ℕ, List, Option, Some, None, Bool, true, false, ⊤, length}
use Rattle.std.specs.Prelude.{◌&&◌, ◌==◌, if◌then◌else◌, map}
use Rattle.std.specs.List.{list_any}
use Rattle.am_universe.specs.Universe.{Label}
use Rattle.am_universe.specs.Choice.{IsWhole}
use Rattle.am_universe.specs.LabelSet.{LabelMap}
use Rattle.am_labels.specs.Space.{Space}
use Rattle.am_config.specs.ConfigFile.{Configuration, RouteTree, receiver_of}
use Rattle.am_first_sets.specs.Budget.{looks_of}
use Rattle.am_lint.specs.declared.arrival.Arrival.{Arrival}
use Rattle.am_lint.specs.declared.arrival.Arrival.TheVariants as arrival_is
use Rattle.am_lint.specs.declared.arrival.Reason.{Reason}
use Rattle.am_lint.specs.declared.found.FoundRoute.{FoundRoute}
use Rattle.am_lint.specs.declared.found.RouteFinding.{RouteFinding}
use Rattle.am_lint.specs.declared.found.RouteFinding.TheVariants as finding_is
use Rattle.am_lint.specs.declared.found.ReceiverFinding.{ReceiverFinding}
use Rattle.am_lint.specs.declared.found.ReceiverFinding.TheVariants as receiver_is
use Rattle.am_lint.specs.Findings.{Finding, Dead, Unusual, HandsOn, Undecided}
use Rattle.am_lint.specs.LintLines.{Said}
use Rattle.am_eval.specs.Reaching.{IsSetOf}
use Rattle.am_lint.specs.Arrival.{IsArrival}
use Rattle.am_lint.specs.Report.{has_undecided}

-- What is said of a route. `unentered` says it of a route that no ordinary alert enters, and
-- `handing` of one whose children take all of them, by how the route stands over every alert, if
-- other alerts count. The others say it of any route.
abbrev pub unentered : Reason → Option Arrival → Finding
unentered reason None = Dead reason.cause reason.routes.items
unentered reason (Some (arrival_is.Ends choice)) =
    Unusual reason.cause reason.routes.items choice
unentered reason (Some (arrival_is.HandsOn entry children)) =
    Unusual reason.cause reason.routes.items entry
unentered reason (Some (arrival_is.NeverEntered other)) = Dead other.cause other.routes.items
unentered reason (Some (arrival_is.Undecided evidence)) = Undecided (looks_of evidence)

abbrev pub handing : List (List ℕ) → Option Arrival → Finding
handing children (Some (arrival_is.Undecided evidence)) = Undecided (looks_of evidence)
handing children every = HandsOn children

abbrev pub finding_by : Arrival → Option Arrival → Option Finding
finding_by (arrival_is.Ends choice) every = None
finding_by (arrival_is.HandsOn entry children) every = Some (handing children.items every)
finding_by (arrival_is.NeverEntered reason) every = Some (unentered reason every)
finding_by (arrival_is.Undecided evidence) every = Some (Undecided (looks_of evidence))

abbrev pub finding_of : FoundRoute → Option Finding
finding_of found = finding_by found.ordinary found.every

-- The same for the value that the code returns, which borrows its parts.
abbrev pub finding_view : RouteFinding → Finding
finding_view (finding_is.Dead reason) = Dead reason.now.cause reason.now.routes.items
finding_view (finding_is.Unusual reason entry) =
    Unusual reason.now.cause reason.now.routes.items entry
finding_view (finding_is.HandsOn children) = HandsOn children.now.items
finding_view (finding_is.Undecided evidence) = Undecided (looks_of evidence.now)

-- Whether an arrival says that some label set ends at the route, and that none does.
abbrev pub is_end : Arrival → Bool
is_end (arrival_is.Ends choice) = true
is_end (arrival_is.HandsOn entry children) = false
is_end (arrival_is.NeverEntered reason) = false
is_end (arrival_is.Undecided evidence) = false

abbrev pub is_end_if_any : Option Arrival → Bool
is_end_if_any None = false
is_end_if_any (Some arrival) = is_end arrival

abbrev pub lacks_end : Arrival → Bool
lacks_end (arrival_is.Ends choice) = false
lacks_end (arrival_is.HandsOn entry children) = true
lacks_end (arrival_is.NeverEntered reason) = true
lacks_end (arrival_is.Undecided evidence) = false

-- What was found of a route: its path, its receiver, and how it stands over a space. Nothing is
-- said here about another space.
abbrev pub IsFoundIn : Space → Configuration → List ℕ × RouteTree → FoundRoute → Type 0
IsFoundIn s c route found =
    (found.path ≡ route.0) × (found.receiver ≡ receiver_of route.1)
    × IsArrival s.labels (IsSetOf s) c route.0 found.ordinary

-- How a route stands over the label sets that occur is known: so over a second space, if no label
-- set of the first is known to end there, and none is left undecided.
abbrev pub IsKnown :
    List Label → (LabelMap → Type 0) → Configuration → List ℕ → Option Arrival → Type 0
IsKnown u Occurs c path None = ⊥
IsKnown u Occurs c path (Some arrival) = IsArrival u Occurs c path arrival

abbrev pub IsLookedAt : Space → Configuration → List ℕ → Arrival → Option Arrival → Type 0
IsLookedAt s c path ordinary every =
    lacks_end ordinary ≡ true → IsKnown s.labels (IsSetOf s) c path every

-- What was found of a route is the same, except for how the route stands over the second space.
abbrev pub IsSameButEvery : FoundRoute → FoundRoute → Type 0
IsSameButEvery found other =
    (other.path ≡ found.path) × (other.receiver ≡ found.receiver)
    × (other.ordinary ≡ found.ordinary)

-- What the report says of a route, from what was found of it.
abbrev pub said_of : FoundRoute → Said
said_of found =
    record { path = found.path; receiver = found.receiver; finding = finding_of found }

-- The choice that is shown for an unusual route is whole, and the receiver of the route is
-- declared.
abbrev pub IsShownFinding : List ℕ → Option Finding → Type 0
IsShownFinding sizes None = ⊤
IsShownFinding sizes (Some (Dead cause routes)) = ⊤
IsShownFinding sizes (Some (Unusual cause routes entry)) = IsWhole sizes entry
IsShownFinding sizes (Some (HandsOn children)) = ⊤
IsShownFinding sizes (Some (Undecided looks)) = ⊤

abbrev pub IsShown : List ℕ → Configuration → FoundRoute → Type 0
IsShown sizes c found =
    IsShownFinding sizes (finding_of found) × (found.receiver < length c.receivers)

-- What is said of the receiver at a position, from what was found of all routes. Nothing is said if
-- an ordinary alert ends at a route that has the receiver. The receiver is undecided if such a
-- route is. It is unusual if another alert ends at such a route, and unmatched if none does.
abbrev pub has_ordinary : ℕ → FoundRoute → Bool
has_ordinary receiver found = found.receiver == receiver && is_end found.ordinary

abbrev pub has_other : ℕ → FoundRoute → Bool
has_other receiver found = found.receiver == receiver && is_end_if_any found.every

abbrev pub receiver_finding : List FoundRoute → ℕ → Option ReceiverFinding
receiver_finding routes receiver =
    if list_any (has_ordinary receiver) routes then None
    else if list_any (has_undecided receiver) (map said_of routes) then Some receiver_is.Undecided
    else if list_any (has_other receiver) routes then Some receiver_is.Unusual
    else Some receiver_is.Unmatched
