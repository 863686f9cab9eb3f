use Rattle.std.proofs.Common.{◌≡◌, ◌∷◌, take}
use Rattle.am_universe.specs.LabelSet.{label_pairs}
use Rattle.am_universe.specs.Sink.{Wrote}
use Rattle.am_universe.proofs.SetTextLemmas.{joined, separator}
use Rattle.am_universe.proofs.write.write_set.Given as goal

-- The brace and the pairs of the first labels are written.
abbrev pub invariant-loop-i : goal.invariant-loop-i
invariant-loop-i g l = record {
  written : Wrote g.W.Sink.taken g.W.Sink.failures l.fn.out l.out (123 ∷ joined (label_pairs (take l.i l.universe) (take l.i l.choice)));
  separator : l.separator ≡ separator (label_pairs (take l.i l.universe) (take l.i l.choice));
}
