-- The lines of `lint` say what is true of every route and every receiver, for all alerts.
use Rattle.std.specs.Prelude.{◌≡◌, ℕ, List, Option, Some, None, Bool, true, false, IsTrue, length}
use Rattle.std.specs.Prelude.{◌==◌, ◌&&◌}
use Rattle.std.specs.List.{AllZip, list_any, range_with_len}
use Rattle.am_universe.specs.Universe.{Label}
use Rattle.am_labels.specs.Space.{Space}
use Rattle.am_config.specs.ConfigFile.{Configuration, RouteTree, receiver_of}
use Rattle.am_config.specs.RoutePaths.{all_routes}
use Rattle.am_classes.specs.declared.alphabet.Alphabet.{Alphabet}
use Rattle.am_classes.specs.declared.alphabet.Alphabet.TheVariants.{Unicode}
use Rattle.am_every_alert.specs.EveryAlert.{IsAlertOf}
use Rattle.am_eval.specs.Reaching.{GoesTo, SomeIs, IsUnmatched}
use Rattle.am_lint.specs.declared.found.ReceiverFinding.{ReceiverFinding}
use Rattle.am_lint.specs.declared.found.ReceiverFinding.TheVariants as receiver_is
use Rattle.am_lint.specs.Findings.{Finding, Undecided, IsOrdinary, IsRouteFinding}
use Rattle.am_report_texts.specs.Line.{Line}
use Rattle.am_lint.specs.LintLines.{Said, report_lines}

-- What is said of a route is true.
abbrev pub IsSaid :
    Alphabet → Space → List Label → Configuration → List ℕ × RouteTree → Said → Type 0
IsSaid a s u c route said =
    (said.path ≡ route.0) × (said.receiver ≡ receiver_of route.1)
    × IsRouteFinding a s u c route.0 said.finding

-- It is said that a route is undecided, and of one that has the receiver at a position.
abbrev pub is_undecided : Option Finding → Bool
is_undecided (Some (Undecided looks)) = true
is_undecided finding = false

abbrev pub has_undecided : ℕ → Said → Bool
has_undecided receiver said = said.receiver == receiver && is_undecided said.finding

-- What is said of the receiver at a position is true, with what is said of the routes. Nothing is
-- said if some ordinary alert goes to it. The receiver is unmatched if no alert that counts goes to
-- it. It is unusual if one does, but no ordinary one. It is undecided only if some route that has
-- it is said to be undecided.
-- Source: own choice.
-- Example: a receiver that no route has is unmatched.
abbrev pub IsReceiverFinding :
    Alphabet → Space → Configuration → List Said → ℕ → Option ReceiverFinding → Type 0
IsReceiverFinding a s c routes receiver None = SomeIs (IsOrdinary s) (GoesTo c receiver)
IsReceiverFinding a s c routes receiver (Some receiver_is.Unmatched) =
    IsUnmatched (IsAlertOf a s) c receiver
IsReceiverFinding a s c routes receiver (Some receiver_is.Unusual) =
    (a ≡ Unicode) × IsUnmatched (IsOrdinary s) c receiver
    × SomeIs (IsAlertOf a s) (GoesTo c receiver)
IsReceiverFinding a s c routes receiver (Some receiver_is.Undecided) =
    IsTrue (list_any (has_undecided receiver) routes)

-- The lines are those of a configuration, for the alerts of a space over an alphabet. What is said
-- of each route, in preorder, and of each receiver, in order, is true, and the lines leave out
-- nothing of it but what is said above. The label sets that they show are over some labels.
-- Source: own choice.
-- Example: if for each route some ordinary alert ends there, and for each receiver some ordinary
-- alert goes to it, there are no lines.
pub record SaysOfRoutes (a : Alphabet) (s : Space) (labels : List Label) (c : Configuration)
    (routes : List Said) (receivers : List (Option ReceiverFinding)) (lines : List Line)
    : Type 0 where
  pub each_route : AllZip (IsSaid a s labels c) (all_routes c) routes
  pub each_receiver :
      AllZip (IsReceiverFinding a s c routes) (range_with_len 0 (length c.receivers)) receivers
  pub lines_are : lines ≡ report_lines labels c routes receivers
