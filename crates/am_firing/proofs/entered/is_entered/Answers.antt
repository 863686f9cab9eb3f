use Rattle.std.proofs.Common.{ap, sym, ◌∙◌, rules, tests}
use Rattle.std.specs.List.{list_any}
use Rattle.std.proofs.lemmas.Iterator.{YieldsList-from_slice}
use Rattle.std.proofs.lemmas.Iterator.Search.{any_from_yields_List}
use Rattle.am_universe.proofs.UniverseLemmas.{list_any-map}
use Rattle.am_config.specs.Path.{leads_through}
use Rattle.am_firing.proofs.entered.is_entered.Goals as goal

pub returns : goal.returns
returns c =
    let steps = c.args.steps.now in
    any_from_yields_List (λ end. leads_through steps end.items) _ _ c.any.result
    c.any.ensures.ran (YieldsList-from_slice c.as_slice.result.now cc)
    (λ x b q k. search (rules, tests))
    ∙ ap (list_any (λ end. leads_through steps end.items)) c.as_slice.ensures.keys
    ∙ sym (list_any-map (leads_through steps) (λ end. end.items) c.args.ends.now.keys)
