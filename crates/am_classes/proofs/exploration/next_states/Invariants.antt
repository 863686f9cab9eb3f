use Rattle.std.proofs.Common.{◌≡◌, ℕ, ◌<◌, ◌+◌, Some, slice_get, length}
use Rattle.am_classes.specs.Exploration.{AreListed, AreLed, HaveLength, LeadsOn}
use Rattle.am_classes.proofs.exploration.next_states.Given as goal

-- The bytes so far lead on.
abbrev pub invariant-loop-byte : goal.invariant-loop-byte
invariant-loop-byte l = record {
  own : AreListed l.questions l.nexts.items;
  same : HaveLength (length l.item.text.items + 1) l.nexts.items;
  led : AreLed l.questions l.nexts.items l.item l.led;
  leads : (k byte : ℕ) → k < l.byte-index → slice_get l.order k ≡ Some byte
      → LeadsOn l.questions l.nexts.items l.item byte;
}
