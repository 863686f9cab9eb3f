use Rattle.am_alerting_rules.proofs.FixedLabels.{fixed_distinct, fixed_named}
use Rattle.am_alerting_rules.proofs.laws.fixed_labels_have_distinct_names.Goals as goal

pub returns : goal.returns
returns c = record { distinct = fixed_distinct; named = fixed_named }
