use Rattle.std.proofs.Common.{◌==◌, option_copied, rules, sym, ap, ◌∙◌}
use borrow.Author.Tests.{tests}
use Rattle.std.specs.List.{list_any}
use Rattle.std.proofs.lemmas.Iterator.{YieldsList-from_slice}
use Rattle.std.proofs.lemmas.Iterator.Search.{any_from_yields_List}
use Rattle.am_rule_outcomes.specs.WhereLines.{is_asked}
use Rattle.am_rule_outcomes.proofs.where_lines.is_asked.Goals as goal

pub returns-in-Some : goal.returns-in-Some
returns-in-Some c = λ o is.
    any_from_yields_List (λ r. list_any (λ other. other == r) c.in-Some.asked.now) _ _ c.any.result
    c.any.ensures.ran (YieldsList-from_slice c.args.receivers.now cc)
    (λ x b q k. search (rules, tests))
    ∙ ap (list_any (λ r. list_any (λ other. other == r) c.in-Some.asked.now)) (sym is)
    ∙ ap (λ asked. is_asked asked o) (sym (ap option_copied c.in-Some.is))
