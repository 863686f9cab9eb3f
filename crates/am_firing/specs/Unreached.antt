-- What some alerts do not reach: routes, receivers, and sides of inhibition rules.
use Rattle.std.specs.Prelude.{ℕ, List, [], ◌∷◌, length, take, Bool, true, false, not, ◌&&◌, ◌==◌}
use Rattle.std.specs.Prelude.{Option, Some, None}
use Rattle.std.specs.List.{list_any}
use Rattle.am_universe.specs.LabelSet.{LabelMap}
use Rattle.am_labels.specs.Matcher.{Matcher, all_hold}
use Rattle.am_config.specs.ConfigFile.{Configuration}
use Rattle.am_config.specs.Path.{leads_through}
use Rattle.am_eval.specs.Routing.{ends, receivers}
use Rattle.am_eval.specs.World.{World}
use Rattle.am_lint.specs.Findings.{Finding, Dead, Unusual, HandsOn, Undecided}
use Rattle.am_lint.specs.LintLines.{Said}
use Rattle.am_lint.specs.declared.found.ReceiverFinding.{ReceiverFinding}
use Rattle.am_lint.specs.declared.found.ReceiverFinding.TheVariants as receiver_is
use Rattle.am_idle.specs.declared.rule_findings.RuleFinding.{RuleFinding}
use Rattle.am_idle.specs.declared.rule_findings.RuleFinding.TheVariants as rule_is

-- An alert enters the route at a path: it ends there or below it. And it goes to the receiver at a
-- position.
-- Source: Alertmanager configuration reference 0.25, "<route>".
-- Example: an alert that ends at `/0/1` alone enters `/`, `/0` and `/0/1`. It goes to the receiver
-- of `/0/1` alone.
abbrev pub enters : Configuration → List ℕ → LabelMap → Bool
enters c path alert = list_any (leads_through path) (ends alert c)

abbrev pub goes_to : Configuration → ℕ → LabelMap → Bool
goes_to c receiver alert = list_any (λ other. other == receiver) (receivers alert c)

-- Some firing alert enters a route, goes to a receiver, or matches a list of matchers. Each alert
-- of the file counts.
-- Source: own choice.
-- Example: if no alert fires, no alert enters the top-level route.
abbrev pub is_entered : World → List ℕ → Bool
is_entered w path = list_any (enters w.config path) w.alerts

abbrev pub gets_some : World → ℕ → Bool
gets_some w receiver = list_any (goes_to w.config receiver) w.alerts

abbrev pub is_matched : List LabelMap → List Matcher → Bool
is_matched alerts matchers = list_any (λ alert. all_hold alert matchers) alerts

-- An alert enters the parent of a route, or the route is the top-level one. `entered` says which
-- routes an alert enters.
-- Source: own choice.
-- Example: for `/2/0` it is so if an alert ends at `/2/1`.
abbrev pub has_entered_parent : (List ℕ → Bool) → List ℕ → Bool
has_entered_parent entered [] = true
has_entered_parent entered (p ∷ path) = entered (take (length path) (p ∷ path))

-- What is said of a route over every alert tells already that no ordinary alert enters it: it is
-- dead or unusual. What is said of a receiver tells that none goes to it: it is unmatched or
-- unusual.
abbrev pub is_barred : Option Finding → Bool
is_barred None = false
is_barred (Some (Dead cause routes)) = true
is_barred (Some (Unusual cause routes entry)) = true
is_barred (Some (HandsOn children)) = false
is_barred (Some (Undecided looks)) = false

abbrev pub gets_none : Option ReceiverFinding → Bool
gets_none None = false
gets_none (Some receiver_is.Unmatched) = true
gets_none (Some receiver_is.Unusual) = true
gets_none (Some receiver_is.Undecided) = false

-- A route is told to be unreached: none of some alerts enters it, though one enters its parent. It
-- is not told if over every alert worse is said of the route. Nor is it told below an unreached
-- route, since no alert enters a route below one that none enters.
-- Source: own choice.
-- Example: if no firing alert has the team `db`, a route with `team="db"` is unreached, and its
-- children are not told. If no alert fires at all, the top-level route alone is told.
abbrev pub is_unreached : (List ℕ → Bool) → Said → Bool
is_unreached entered said =
    not (entered said.path)
    && (has_entered_parent entered said.path && not (is_barred said.finding))

-- No alert inhibits another by a rule, whatever fires.
abbrev pub is_idle : Option RuleFinding → Bool
is_idle None = false
is_idle (Some (rule_is.Idle reason)) = true
is_idle (Some rule_is.Unproved) = false
is_idle (Some (rule_is.Undecided evidence)) = false
