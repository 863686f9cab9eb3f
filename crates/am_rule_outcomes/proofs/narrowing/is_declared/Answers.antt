use Rattle.std.proofs.Common.{rules, ◌∙◌}
use borrow.Author.Tests.{tests}
use Rattle.std.proofs.lemmas.Iterator.{YieldsList-from_slice}
use Rattle.std.proofs.lemmas.Iterator.Search.{any_from_yields_List}
use Rattle.am_universe.specs.Text.{same_text}
use Rattle.am_rule_outcomes.proofs.NarrowingLemmas.{same_declared}
use Rattle.am_rule_outcomes.proofs.narrowing.is_declared.Goals as goal

pub returns : goal.returns
returns c = λ asked u are.
    any_from_yields_List (λ t. same_text t.name.now c.args.name.now) _ _ c.any.result
    c.any.ensures.ran (YieldsList-from_slice c.args.labels.now cc) (λ x b q k. search (rules, tests))
    ∙ same_declared asked u c.args.labels.now c.args.name.now are
