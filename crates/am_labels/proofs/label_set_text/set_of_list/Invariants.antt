use Rattle.std.proofs.Common.{◌≡◌, take}
use Rattle.am_labels.specs.ParsedLabelSet.{set_of_list}
use Rattle.am_labels.proofs.label_set_text.set_of_list.Given as goal

abbrev pub invariant-loop-matcher : goal.invariant-loop-matcher
invariant-loop-matcher l = l.set ≡ set_of_list (take l.matcher-index l.matchers)
