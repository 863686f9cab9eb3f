-- The table has the named classes of the definition.
use Rattle.am_labels.specs.PatternProfile.{named_classes, class_names}
use Rattle.am_labels.proofs.pattern_profile.named_class_len.Goals as goal

pub returns-clause-value : goal.returns-clause-value
unfolding named_classes class_names
returns-clause-value c = c.first_prefix_len.ensures.value
