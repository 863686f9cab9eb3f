use Rattle.std.proofs.Common.{rules, sym, ◌∙◌}
use borrow.Author.Tests.{tests}
use Rattle.std.proofs.lemmas.Iterator.{YieldsList-from_slice}
use Rattle.std.proofs.lemmas.Iterator.Search.{any_from_yields_List}
use Rattle.am_universe.specs.Text.{same_text}
use Rattle.am_universe.proofs.UniverseLemmas.{list_any-map}
use Rattle.am_rule_outcomes.proofs.shown_labels.has_name.Goals as goal

pub returns : goal.returns
returns c =
    any_from_yields_List (λ l. same_text l.0.now c.args.name.now) _ _ c.any.result c.any.ensures.ran
    (YieldsList-from_slice c.args.labels.now cc) (λ x b q k. search (rules, tests))
    ∙ sym (list_any-map (λ l. same_text l.0 c.args.name.now) (λ p. (p.0.now, p.1.now))
    c.args.labels.now)
