-- The receivers of some outcomes. (This project's own.)
use Rattle.std.specs.Prelude.{ℕ, List, map, Bool, true, false, not, ◌&&◌, ◌==◌, length}
use Rattle.std.specs.List.{list_any}
use mathlib.Core.Bool.{beq}
use Rattle.am_universe.specs.Text.{same_text}
use Rattle.am_outcomes.specs.Outcomes.{firsts}
use Rattle.am_outcomes.specs.OutcomeLines.{list_at}
use Rattle.am_rule_outcomes.specs.declared.receiver_outcomes.Silenced.{Silenced}
use Rattle.am_rule_outcomes.specs.declared.receiver_outcomes.Silenced.TheVariants as silenced_is

-- A list of receivers, by their positions, what stands for the first alert that goes to them, and
-- how many of the alerts that go to them are silenced.
pub record ReceiverOutcome (C : Type 0) : Type 0 where
  pub receivers : List ℕ
  pub first : C
  pub silenced : Silenced

-- The same with something else that stands for the alert.
abbrev pub with_shown : {C D : Type 0} → (C → D) → ReceiverOutcome C → ReceiverOutcome D
with_shown show o = record {
  receivers = o.receivers;
  first = show o.first;
  silenced = o.silenced;
}

-- How many are silenced, by whether some are, and whether some are not.
abbrev pub silenced_of : Bool → Bool → Silenced
silenced_of false others = silenced_is.No
silenced_of true true = silenced_is.Partly
silenced_of true false = silenced_is.All

module _ {C : Type 0} where
  -- The receivers of an outcome, and whether its alerts are silenced.
  abbrev pub receivers_of : List (List ℕ) × C → List ℕ
  receivers_of outcome = list_at 0 outcome.0

  abbrev pub is_silenced_outcome : List (List ℕ) × C → Bool
  is_silenced_outcome outcome = not (length (list_at 1 outcome.0) == 0)

  -- Some outcome with these receivers is silenced, or some such outcome is not, as the flag says.
  abbrev pub some_with : Bool → List (List (List ℕ) × C) → List ℕ → Bool
  some_with silenced outcomes rs =
      list_any (λ o. same_text (receivers_of o) rs && beq (is_silenced_outcome o) silenced) outcomes

  abbrev pub receiver_outcome : List (List (List ℕ) × C) → List ℕ × C → ReceiverOutcome C
  receiver_outcome outcomes found = record {
    receivers = found.0;
    first = found.1;
    silenced = silenced_of (some_with true outcomes found.0) (some_with false outcomes found.0);
  }

  -- Each list of receivers among some outcomes once, with what stands for the first alert that goes
  -- to them.
  -- Source: own choice.
  -- Example: of an outcome with the receivers 1 that is silenced, one with 2 and one with 1 that is
  -- not silenced, the first two are kept, and the first is silenced in part.
  abbrev pub receiver_outcomes : List (List (List ℕ) × C) → List (ReceiverOutcome C)
  receiver_outcomes outcomes =
      map (receiver_outcome outcomes)
      (firsts same_text (map (λ o. (receivers_of o, o.1)) outcomes))
