use Rattle.std.proofs.Common.{◌≡◌, drop}
use Rattle.am_labels.specs.declared.op.TheConstants.Op.{ALL}
use Rattle.am_labels.specs.MatcherReading.{first_operator}
use Rattle.am_labels.proofs.matcher_text.read_operator.Given as goal

abbrev pub invariant-loop-op : goal.invariant-loop-op
invariant-loop-op l = first_operator (drop l.op-index ALL) l.text ≡ first_operator ALL l.text
