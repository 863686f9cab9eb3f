-- What is said of inhibition rules, and when it is true of all alerts. (This project's own.)
use Rattle.std.specs.Prelude.{◌≡◌, ◌≢◌, ◌<◌, ℕ, List, [], ◌∷◌, length, ◌&&◌, Contains}
use Rattle.std.specs.Prelude.{Option, Some, None, true}
use Rattle.std.specs.Prelude.{slice_get, IsTrue, IsFalse}
use Rattle.std.specs.List.{AllByRecursion}
use Rattle.std.specs.List.Sorted.{IsStrictlySortedBy}
use Rattle.std.specs.Ordering.{nat_cmp}
use Rattle.am_universe.specs.declared.kind.Kind.TheVariants as kinds
use Rattle.am_universe.specs.LabelSet.{LabelMap}
use Rattle.am_labels.specs.Matcher.{Matcher, condition_holds, all_hold}
use Rattle.am_labels.specs.Space.{Space}
use Rattle.am_config.specs.ConfigFile.{Rule}
use Rattle.am_eval.specs.Inhibition.{have_equal, is_two_sided, inhibits}
use Rattle.am_classes.specs.declared.alphabet.Alphabet.{Alphabet}
use Rattle.am_every_alert.specs.EveryAlert.{IsAlertOf}
use Rattle.am_first_sets.specs.Budget.{looks_of}
use Rattle.am_first_sets.specs.Looks.{is_limit}
use Rattle.am_idle.specs.declared.rules.IdleReason.{IdleReason}
use Rattle.am_idle.specs.declared.rules.IdleReason.TheVariants as reason_is
use Rattle.am_idle.specs.declared.rule_findings.RuleFinding.{RuleFinding}
use Rattle.am_idle.specs.declared.rule_findings.RuleFinding.TheVariants as finding_is
use Rattle.am_idle.specs.Lists.{IsRefusalForLists}

-- ---- Pairs of alerts.

-- Two alerts may meet in a rule: both occur, and they have the same values for the labels in
-- `equal`.
-- Source: Alertmanager configuration reference 0.25, "<inhibit_rule>": `equal`.
-- Example: if `equal` is `severity`, a critical alert and a warning may not meet. If it is `team`,
-- two alerts without a team may.
abbrev pub MayMeet : Alphabet → Space → Rule → LabelMap → LabelMap → Type 0
MayMeet a s rule x y =
    IsAlertOf a s x × IsAlertOf a s y × IsTrue (have_equal rule.equal x y)

-- There are two label sets that may meet, the first with one property and the second with another.
-- A parameter says which may meet.
abbrev pub SomeMeet :
    (LabelMap → LabelMap → Type 0) → (LabelMap → Type 0) → (LabelMap → Type 0) → Type 0
SomeMeet Meet First Second =
    (x : LabelMap) × (y : LabelMap) × Meet x y × First x × Second y

-- There are two label sets that may meet: the first matches the source side of a rule, the second
-- matches the target side, and the two do not both match both sides.
-- Source: Alertmanager configuration reference 0.25, "<inhibit_rule>": an alert that matches both
-- sides cannot be inhibited by alerts for which the same is true.
-- Example: if both sides ask for any severity, there are no two such label sets.
abbrev pub SomeInhibit : (LabelMap → LabelMap → Type 0) → Rule → Type 0
SomeInhibit Meet rule =
    (x : LabelMap) × (y : LabelMap) × Meet x y
    × IsTrue (all_hold x rule.source) × IsTrue (all_hold y rule.target)
    × IsFalse (is_two_sided rule x && is_two_sided rule y)

-- ---- Matchers that are to blame.

-- A label set matches a list. It meets the matchers at some positions of a list, or all of these
-- except one.
-- Source: own choice.
-- Example: `{team="db"}` meets the matcher at 1 of `env="prod",team="db"`. Of those at 0 and 1 it
-- meets all except the one at 0.
abbrev pub Matches : List Matcher → LabelMap → Type 0
Matches ms set = IsTrue (all_hold set ms)

abbrev pub MeetsAt : List Matcher → List ℕ → LabelMap → Type 0
MeetsAt ms positions set =
    (i : ℕ) (m : Matcher) → Contains positions i → slice_get ms i ≡ Some m
    → IsTrue (condition_holds set m)

abbrev pub MeetsAtBut : List Matcher → List ℕ → ℕ → LabelMap → Type 0
MeetsAtBut ms positions but set =
    (i : ℕ) (m : Matcher) → Contains positions i → i ≢ but → slice_get ms i ≡ Some m
    → IsTrue (condition_holds set m)

-- The positions are positions of a list.
abbrev pub AreWithin : List Matcher → List ℕ → Type 0
AreWithin ms positions = AllByRecursion (λ i. i < length ms) positions

-- Some matchers of the source side and some of the target side contradict each other: there are no
-- two label sets that may meet such that the first meets those of the source side and the second
-- those of the target side. If any one of these matchers is left out, there are two. The matchers
-- are given by their positions, in order.
-- Source: own choice; logic calls what is enough and needed in this way a minimal unsatisfiable
-- set.
-- Example: if `equal` is `severity`, `severity="critical"` of the source side and
-- `severity="warning"` of the target side do, and no other matcher is among them. If no alert is
-- possible, both lists of positions are empty.
pub record Contradict (Meet : LabelMap → LabelMap → Type 0) (rule : Rule)
    (sources targets : List ℕ) : Type 0 where
  pub in_source : AreWithin rule.source sources
  pub in_target : AreWithin rule.target targets
  pub source_order : IsStrictlySortedBy nat_cmp sources
  pub target_order : IsStrictlySortedBy nat_cmp targets
  pub enough : SomeMeet Meet (MeetsAt rule.source sources) (MeetsAt rule.target targets) → ⊥
  pub source_needed : (i : ℕ) → Contains sources i
      → SomeMeet Meet (MeetsAtBut rule.source sources i) (MeetsAt rule.target targets)
  pub target_needed : (i : ℕ) → Contains targets i
      → SomeMeet Meet (MeetsAt rule.source sources) (MeetsAtBut rule.target targets i)

-- ---- What is said of a rule.

-- Why no label set inhibits another by a rule. Either matchers contradict each other. Or two label
-- sets that may meet match one side each, but any two that do both match both sides.
-- Source: own choice.
-- Example: with `team="db"` on both sides it is the second.
abbrev pub IsWhyNone : (LabelMap → LabelMap → Type 0) → Rule → IdleReason → Type 0
IsWhyNone Meet rule (reason_is.Contradiction source target) =
    Contradict Meet rule source.items target.items
IsWhyNone Meet rule reason_is.Both =
    SomeMeet Meet (Matches rule.source) (Matches rule.target) × (SomeInhibit Meet rule → ⊥)

-- A rule is idle: no alert inhibits another by it, whatever fires.
-- Source: Alertmanager configuration reference 0.25, "<inhibit_rule>".
-- Example: a rule whose `equal` is `severity` is idle if its source side asks for
-- `severity="critical"` and its target side for `severity="warning"`.
abbrev pub IsIdle : Alphabet → Space → Rule → Type 0
IsIdle a s rule =
    (x y : LabelMap) → IsAlertOf a s x → IsAlertOf a s y → IsFalse (inhibits rule x y)

-- Why a rule is idle, if it is. No reason is given if some alert inhibits another by the rule.
-- Otherwise the rule is idle, for this reason.
-- Source: own choice.
-- Example: a rule without matchers and without `equal` is idle, because any two alerts match both
-- sides.
abbrev pub IsIdleReason : Alphabet → Space → Rule → Option IdleReason → Type 0
IsIdleReason a s rule None =
    (x : LabelMap) × (y : LabelMap) × IsAlertOf a s x × IsAlertOf a s y × IsTrue (inhibits rule x y)
IsIdleReason a s rule (Some reason) = IsIdle a s rule × IsWhyNone (MayMeet a s rule) rule reason

-- The matchers of the two sides of a rule.
abbrev pub sides_of : Rule → List (List Matcher)
sides_of rule = rule.source ∷ rule.target ∷ []

-- What is said of a rule is true. Nothing is said if some alert inhibits another by the rule.
-- Otherwise the rule is said to be idle, for a reason. It is unproved if it could not be computed
-- which texts of a label its matchers and the impossible lists tell apart. It is undecided if as
-- many masks were looked at as a limit allows.
-- Source: own choice.
-- Example: a rule with `team="db"` and `team="web"` on its source side is said to be idle. One with
-- `team=~"\bdb"` may be unproved.
abbrev pub IsRuleFinding : Alphabet → Space → Rule → Option RuleFinding → Type 0
IsRuleFinding a s rule None = IsIdleReason a s rule None
IsRuleFinding a s rule (Some (finding_is.Idle reason)) = IsIdleReason a s rule (Some reason)
IsRuleFinding a s rule (Some finding_is.Unproved) =
    IsRefusalForLists a s (sides_of rule) kinds.Unproved
IsRuleFinding a s rule (Some (finding_is.Undecided evidence)) =
    is_limit (looks_of evidence) ≡ true
