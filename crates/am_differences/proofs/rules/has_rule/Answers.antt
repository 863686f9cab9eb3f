use Rattle.std.proofs.Common.{sym, ◌∙◌, rules, tests}
use Rattle.std.proofs.lemmas.Iterator.{YieldsList-from_slice}
use Rattle.std.proofs.lemmas.Iterator.Search.{any_from_yields_List}
use Rattle.am_universe.proofs.UniverseLemmas.{list_any-map}
use Rattle.am_differences.specs.RuleParts.{same_rule}
use Rattle.am_differences.specs.PartsView.{rule_view}
use Rattle.am_differences.proofs.rules.has_rule.Goals as goal

pub returns : goal.returns
returns c =
    any_from_yields_List (λ r. same_rule (rule_view c.args.rule.now) (rule_view r)) _ _ c.any.result
    c.any.ensures.ran (YieldsList-from_slice c.args.rules.now cc) (λ x b q k. search (rules, tests))
    ∙ sym (list_any-map (same_rule (rule_view c.args.rule.now)) rule_view c.args.rules.now)
