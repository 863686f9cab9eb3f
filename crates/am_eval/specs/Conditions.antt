-- Conditions: when a simple part of a question is true of an alert. A condition is a list of ways
-- to make the part true, and a way is a list of literals. To test a condition, no tree of routes
-- has to be walked. A condition also fixes the verdict of a question: the definition of routing
-- goes down the tree, and there the logic of three values could be applied in more than one way.
use Rattle.std.specs.Prelude.{ℕ, List, [], ◌∷◌, ◌++◌, map, take, slice_get, Bool, true, false, not}
use Rattle.std.specs.Prelude.{if◌then◌else◌, Option, Some, None, ◌==◌}
use Rattle.std.specs.List.{filter, flat_map, list_all, list_any}
use Rattle.am_universe.specs.LabelSet.{LabelMap, value_of}
use Rattle.am_labels.specs.Matcher.{Matcher, all_hold}
use Rattle.am_labels.specs.declared.op.Op.TheVariants as ops
use Rattle.am_config.specs.ConfigFile.{RouteTree, Configuration, Rule, matchers_of, continues_of}
use Rattle.am_config.specs.ConfigFile.{receiver_of, children_of}
use Rattle.am_config.specs.Path.{list_of, route_at}
use Rattle.am_config.specs.RoutePaths.{paths_at}
use Rattle.am_list_files.specs.SilencesFile.{Silence}
use Rattle.am_eval.specs.declared.pair.Pair.{Pair}
use Rattle.am_eval.specs.World.{World}
use Rattle.am_eval.specs.Silencing.{is_active}
use Rattle.am_eval.specs.declared.property.Property.{Property}
use Rattle.am_eval.specs.declared.property.Property.TheVariants.{Any, Silenced, Inhibited}
use Rattle.am_eval.specs.declared.reach.Reach.{Reach}
use Rattle.am_eval.specs.declared.reach.Reach.TheVariants.{Ends, Enters}
use Rattle.am_eval.specs.Question.{Simple, Is, Receiver, Route, Braces}

-- A literal: a list of matchers, and whether an alert must match it or must not match it.
-- Source: propositional logic, where a literal is a statement or its negation.
-- Example: `not_matching` of `severity="critical"` says that the alert is not critical.
pub record Literal : Type 0 where
  pub matchers : List Matcher
  pub wanted : Bool

abbrev pub matching : List Matcher → Literal
matching matchers = record { matchers = matchers; wanted = true }

abbrev pub not_matching : List Matcher → Literal
not_matching matchers = record { matchers = matchers; wanted = false }

-- A literal that is wanted is true of a label set that matches its list. One that is not wanted is
-- true of a label set that does not match it. A condition is true if all literals of one of its
-- ways are true, whatever test decides the literals. A way without literals is true, and a
-- condition without ways is false.
-- Source: propositional logic, the disjunctive normal form.
-- Example: `not_matching` of `team="web"` is true of `{team="db"}`.
abbrev pub literal_holds : LabelMap → Literal → Bool
literal_holds s l = if l.wanted then all_hold s l.matchers else not (all_hold s l.matchers)

abbrev pub some_way_holds : (Literal → Bool) → List (List Literal) → Bool
some_way_holds holds ways = list_any (list_all holds) ways

-- ---- Routes.

-- The literals that say that the alert matches none of these siblings that lack `continue`, so that
-- the child after them is tried. And the literals that say that it matches no child of a route, so
-- that it ends at the route itself.
-- Source: Alertmanager configuration reference 0.25, "<route>": `continue`.
-- Example: let the first of two siblings have `continue`, and let the second lack it. Then the
-- alert must not match the second, and may match the first.
abbrev pub stopped_by_none : List RouteTree → List Literal
stopped_by_none siblings =
    map (λ t. not_matching (matchers_of t)) (filter (λ t. not (continues_of t)) siblings)

abbrev pub no_child_of : RouteTree → List Literal
no_child_of t = map (λ child. not_matching (matchers_of child)) (list_of (children_of t))

-- What is asked of an alert at the route that it is to reach. To end there, it must match no child
-- of the route. To enter the route, nothing more is asked.
abbrev pub asked_at : Reach → RouteTree → List Literal
asked_at Ends t = no_child_of t
asked_at Enters t = []

-- How an alert matches a route, if there is one, and goes on as `further` says. And how an alert
-- that matches a route gets down from it to the route at a path: at each step, none of the siblings
-- before the next route stops it, and it matches that route. There is one way down, or none if no
-- route is at the path.
-- Source: Alertmanager configuration reference 0.25, "<route>".
-- Example: if `/0` lacks `continue`, the way from the top-level route to enter `/1` is: do not
-- match `/0`, and match `/1`.
abbrev pub ways_into : (RouteTree → List (List Literal)) → Option RouteTree → List (List Literal)
ways_into further None = []
ways_into further (Some t) = map (λ way. matching (matchers_of t) ∷ way) (further t)

abbrev pub ways_below : Reach → RouteTree → List ℕ → List (List Literal)
ways_below reach t [] = asked_at reach t ∷ []
ways_below reach t (p ∷ path) =
    map (λ way. stopped_by_none (take p (list_of (children_of t))) ++ way)
    (ways_into (λ child. ways_below reach child path) (slice_get (list_of (children_of t)) p))

-- An alert reaches the route at a path if it matches the top-level route and gets down from there
-- by that path. It goes to a receiver if it ends at a route that has this receiver. The list of the
-- top-level route is among the literals, although it is empty, so one equation fits every route.
-- Source: Alertmanager configuration reference 0.25, "<route>".
-- Example: there is one way to end at `/`: match the top-level route, which has no matchers, and
-- match none of its children.
abbrev pub ways_to_reach : Configuration → Reach → List ℕ → List (List Literal)
ways_to_reach c reach path = ways_into (λ t. ways_below reach t path) (Some c.root)

abbrev pub is_receiver : ℕ → Option RouteTree → Bool
is_receiver receiver None = false
is_receiver receiver (Some t) = receiver_of t == receiver

abbrev pub paths_to : ℕ → RouteTree → List (List ℕ)
paths_to receiver t = filter (λ path. is_receiver receiver (route_at t path)) (paths_at t)

abbrev pub ways_to_receiver : Configuration → ℕ → List (List Literal)
ways_to_receiver c receiver = flat_map (ways_to_reach c Ends) (paths_to receiver c.root)

-- ---- Silences and inhibition rules.

-- An alert is silenced if it matches all matchers of an active silence. There is one way for each
-- active silence.
-- Source: Alertmanager documentation 0.25, "Silences".
-- Example: a silence that is not active gives no way.
abbrev pub silencing_ways : World → List (List Literal)
silencing_ways w =
    map (λ (silence : Silence). matching silence.matchers ∷ [])
    (filter (is_active w.instant) w.silences)

-- The matcher that asks for the value that a firing alert has for a label.
-- Source: Alertmanager configuration reference 0.25, "<inhibit_rule>": `equal`; a missing label and
-- a label with an empty value are the same thing.
-- Example: for the label `team` it is `team="db"` if the firing alert is of the team `db`, and
-- `team=""` if it has no team.
abbrev pub same_value : LabelMap → List ℕ → Matcher
same_value firing name =
    record { name = name; op = ops.Equal; value = value_of firing name }

-- How a firing alert that matches the source side of a rule inhibits another alert by that rule.
-- The other alert matches one list: the target side, and the firing alert's values for the labels
-- in `equal`. If the firing alert matches the target side too, the other must not match the source
-- side. And all such ways of a world: one for each rule and each firing alert that its source side
-- matches.
-- Source: Alertmanager configuration reference 0.25, "<inhibit_rule>".
-- Example: let the source side ask for the severity `critical`, the target side for `warning`, and
-- let `equal` have `team`. Then a firing critical alert of the team `db` inhibits what matches
-- `severity="warning"` and `team="db"`. If both sides ask for any severity, it inhibits nothing:
-- the other alert would have to match that, and not match it.
abbrev pub inhibiting_way : Rule → LabelMap → List Literal
inhibiting_way rule firing =
    matching (rule.target ++ map (same_value firing) rule.equal)
    ∷ (if all_hold firing rule.target then not_matching rule.source ∷ [] else [])

abbrev pub inhibiting_ways : World → List (List Literal)
inhibiting_ways w =
    flat_map
    (λ rule. map (inhibiting_way rule) (filter (λ firing. all_hold firing rule.source) w.alerts))
    w.config.rules

-- The same for a pair of a rule and a firing alert that its source side matches, by their
-- positions.
abbrev pub way_of_alert : Rule → Option LabelMap → List Literal
way_of_alert rule None = []
way_of_alert rule (Some firing) = inhibiting_way rule firing

abbrev pub way_of_rule : Option LabelMap → Option Rule → List Literal
way_of_rule firing None = []
way_of_rule firing (Some rule) = way_of_alert rule firing

abbrev pub pair_way : List Rule → List LabelMap → Pair → List Literal
pair_way rules alerts pair =
    way_of_rule (slice_get alerts pair.alert) (slice_get rules pair.rule)

-- ---- Questions.

-- The condition of a property, and the condition of a simple part. The law
-- `a_simple_part_is_true_where_its_condition_holds` says that the part is true of an alert exactly
-- if its condition is.
-- Source: own choice.
-- Example: `any` has one way, without literals. `{team="db"}` has one way, with one literal.
abbrev pub ways_to_have : World → Property → List (List Literal)
ways_to_have w Any = [] ∷ []
ways_to_have w Silenced = silencing_ways w
ways_to_have w Inhibited = inhibiting_ways w

abbrev pub conditions_of : World → Simple → List (List Literal)
conditions_of w (Is property) = ways_to_have w property
conditions_of w (Receiver receiver) = ways_to_receiver w.config receiver
conditions_of w (Route reach path) = ways_to_reach w.config reach path
conditions_of w (Braces matchers) = (matching matchers ∷ []) ∷ []
