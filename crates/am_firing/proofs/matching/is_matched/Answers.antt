use Rattle.std.proofs.Common.{ap, ◌∙◌, rules, tests}
use Rattle.std.specs.List.{list_any}
use Rattle.std.proofs.lemmas.Iterator.{YieldsList-from_slice}
use Rattle.std.proofs.lemmas.Iterator.Search.{any_from_yields_List}
use Rattle.am_universe.specs.LabelSet.{LabelMap}
use Rattle.am_universe.proofs.UniverseLemmas.{list_any-map}
use Rattle.am_labels.specs.Matcher.{all_hold}
use Rattle.am_firing.proofs.matching.is_matched.Goals as goal

pub returns : goal.returns
returns c =
    any_from_yields_List (λ is. is) _ _ c.any.result c.any.ensures.ran
    (YieldsList-from_slice c.deref.result.now cc) (λ x b q k. search (rules, tests))
    ∙ ap (list_any (λ is. is)) (c.deref.ensures.value ∙ c.in_ok-matches.ensures)
    ∙ list_any-map (λ is. is) (λ (alert : LabelMap). all_hold alert c.args.matchers.now) c.args.alerts.now
