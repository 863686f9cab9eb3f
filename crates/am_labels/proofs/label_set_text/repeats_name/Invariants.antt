use Rattle.std.proofs.Common.{◌≡◌, drop}
use Rattle.am_labels.specs.ParsedLabelSet.{repeats_name}
use Rattle.am_labels.proofs.label_set_text.repeats_name.Given as goal

-- The matchers that are left decide.
abbrev pub invariant-loop-i : goal.invariant-loop-i
invariant-loop-i l = repeats_name (drop l.i l.matchers) ≡ repeats_name l.matchers
