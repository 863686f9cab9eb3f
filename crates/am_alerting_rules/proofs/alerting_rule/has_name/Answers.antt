use Rattle.std.proofs.Common.{List, rules, tests, ℕ}
use Rattle.std.proofs.lemmas.Iterator.{YieldsList-from_slice}
use Rattle.std.proofs.lemmas.Iterator.Search.{any_from_yields_List}
use Rattle.am_universe.specs.Text.{same_text}
use Rattle.am_universe.proofs.UniverseLemmas.{list_any-map}
use Rattle.am_alerting_rules.proofs.alerting_rule.has_name.Goals as goal

pub returns : goal.returns
returns c =
    rw (list_any-map {B = List ℕ × List ℕ} (λ l. same_text l.0 c.args.name.now) (λ p. (p.0.now, p.1.now))
    c.args.labels.now)
    (any_from_yields_List (λ p. same_text p.0.now c.args.name.now) _ _ _ c.any.ensures.ran
    (YieldsList-from_slice c.args.labels.now cc) (λ x b q k. search (rules, tests)))
