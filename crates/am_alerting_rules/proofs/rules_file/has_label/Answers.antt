use Rattle.std.proofs.Common.{rules, tests}
use Rattle.std.proofs.lemmas.Iterator.{YieldsList-from_slice}
use Rattle.std.proofs.lemmas.Iterator.Search.{any_from_yields_List}
use Rattle.am_universe.specs.Text.{same_text}
use Rattle.am_alerting_rules.proofs.rules_file.has_label.Goals as goal

pub returns : goal.returns
returns c =
    any_from_yields_List (λ l. same_text l.0 c.args.name.now) _ _ _ c.any.ensures.ran
    (YieldsList-from_slice c.args.labels.now cc) (λ x b q k. search (rules, tests))
