use Rattle.std.proofs.Common.{◌≡◌, take, map}
use Rattle.am_universe.specs.Universe.{values_at}
use Rattle.am_labels.specs.Row.{truth_on_value}
use Rattle.am_labels.proofs.row.declared_truths.Given as goal

abbrev pub invariant-loop-j : goal.invariant-loop-j
invariant-loop-j l = record {
  truths : l.truths.items ≡ map (truth_on_value l.fn.prepared) (take l.j (values_at l.universe l.i));
  same : l.prepared ≡ l.fn.prepared;
}
