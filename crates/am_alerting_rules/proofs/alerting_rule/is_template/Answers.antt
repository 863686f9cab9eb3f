use Rattle.std.proofs.Common.{codes}
use Rattle.std.proofs.lemmas.Str.Pattern.{contains_text}
use Rattle.am_alerting_rules.proofs.Templates.{template_found}
use Rattle.am_alerting_rules.proofs.alerting_rule.is_template.Goals as goal

pub returns : goal.returns
returns c =
    template_found c.args.text.now c.contains.result
    (contains_text c.contains.result (codes "{{") c.args.text.now c.contains.ensures.cases)
