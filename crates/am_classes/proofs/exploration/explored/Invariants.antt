use Rattle.std.proofs.Common.{◌≡◌, ℕ, ◌<◌, ◌≤◌, ◌+◌, Some, [], slice_get, length}
use Rattle.am_classes.specs.declared.reached_state.ReachedState.{ReachedState}
use Rattle.am_classes.specs.Exploration.{AreListed, AreShortFirst, HasState, LeadsOn}
use Rattle.am_classes.specs.declared.limits.TheConstants.{MAX_STATES}
use Rattle.am_classes.specs.Candidates.{AreApartCandidates, AreShortest, HasEachFound, Represents}
use Rattle.am_classes.proofs.exploration.explored.Given as goal

-- The states so far lead to listed states, and are represented. A state with a shorter text is
-- listed before one with a longer text, and each is at most one byte longer than the one at hand.
abbrev pub invariant-loop-at : goal.invariant-loop-at
invariant-loop-at l = record {
  within : l.at ≤ length l.listed.keys;
  most : length l.listed.keys ≤ MAX_STATES;
  own : AreListed l.questions l.listed.keys;
  order : (item : ReachedState) → slice_get l.listed.keys l.at ≡ Some item
      → AreShortFirst (length item.text.items + 1) l.listed.keys;
  first : HasState l.questions l.listed.keys 0 [];
  done : (k : ℕ) (item : ReachedState) → k < l.at → slice_get l.listed.keys k ≡ Some item
      → ((byte : ℕ) → byte < 256 → LeadsOn l.questions l.listed.keys item byte)
      × Represents l.questions l.items.items item.state;
  seen : HasEachFound l.seen l.items.items;
  distinct : AreApartCandidates l.questions l.items.items;
  shortest : AreShortest l.questions l.items.items;
}
