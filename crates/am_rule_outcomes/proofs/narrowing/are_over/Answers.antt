use Rattle.std.proofs.Common.{rules, sym, ◌∙◌}
use borrow.Author.Tests.{tests}
use Rattle.std.proofs.lemmas.Iterator.{YieldsList-from_slice}
use Rattle.std.proofs.lemmas.Iterator.Search.{all_from_yields_List}
use Rattle.am_classes.specs.Alphabet.{is_over}
use Rattle.std.proofs.lemmas.List.Folds.{list_all-map}
use Rattle.am_rule_outcomes.proofs.narrowing.are_over.Goals as goal

pub returns : goal.returns
returns c =
    all_from_yields_List (λ l. is_over c.args.alphabet l.1.now) _ _ c.all.result c.all.ensures.ran
    (YieldsList-from_slice c.args.fixed.now cc) (λ x b q k. search (rules, tests))
    ∙ sym (list_all-map (λ l. is_over c.args.alphabet l.1) (λ p. (p.0.now, p.1.now))
    c.args.fixed.now)
