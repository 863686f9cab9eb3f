use Rattle.std.proofs.Common.{◌≡◌, ◌<◌, ◌==◌, ℕ, length, get_or, take, false}
use Rattle.std.specs.List.{list_any}
use Rattle.am_firing.proofs.going.marks_at.Given as goal

-- the positions so far are marked
abbrev pub invariant-loop-position : goal.invariant-loop-position
invariant-loop-position l = record {
  long : length l.marks.items ≡ l.count;
  marked : (i : ℕ) → i < l.count → get_or l.marks.items i false
      ≡ list_any (λ position. position == i) (take l.position-index l.positions);
}
