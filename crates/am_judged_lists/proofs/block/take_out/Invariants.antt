use Rattle.std.proofs.Common.{◌≡◌, ◌<◌, ◌≤◌, ℕ, false, not, ◌&&◌, ◌||◌, nat_eq, slice_index_or, length}
use Rattle.am_judged_lists.specs.declared.list_set.TheConstants.{ROOM}
use Rattle.am_judged_lists.specs.ListSetView.{has}
use Rattle.am_judged_lists.specs.BlockView.{row_at}
use Rattle.am_judged_lists.proofs.block.take_out.Given as goal

-- the cube is taken out of the rows so far, and the others are as they were
abbrev pub invariant-loop-position : goal.invariant-loop-position
invariant-loop-position l = record {
  count : length l.rows.items ≡ length l.initial.rows.items;
  below : (position k : ℕ) → position < l.position → k < ROOM
      → has (row_at l.rows.items position) k ≡ (has (row_at l.initial.rows.items position) k
      && (not (nat_eq k l.place) || slice_index_or l.mask position false));
  others : (position : ℕ) → l.position ≤ position
      → row_at l.rows.items position ≡ row_at l.initial.rows.items position;
}
