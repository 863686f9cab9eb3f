use Rattle.std.proofs.Common.{◌≡◌, ℕ, Some, length, slice_get}
use Rattle.am_judged_lists.specs.declared.certainty.Certainty.TheVariants.{Must}
use Rattle.am_judged_lists.specs.declared.list_set.ListSet.{ListSet}
use Rattle.am_judged_lists.specs.BlockView.{can_pass, IsSetOf}
use Rattle.am_judged_lists.proofs.block.sets_within.Given as goal

abbrev pub invariant-loop-len : goal.invariant-loop-len
invariant-loop-len l = record {
  count : length l.sets.items ≡ l.len;
  sets : (len : ℕ) (set : ListSet) → slice_get l.sets.items len ≡ Some set
      → IsSetOf (can_pass Must len) l.cubes set;
}
