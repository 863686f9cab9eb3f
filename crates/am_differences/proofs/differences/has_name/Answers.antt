use Rattle.std.proofs.Common.{sym, ◌∙◌, rules, tests}
use Rattle.std.proofs.lemmas.Iterator.{YieldsList-from_slice}
use Rattle.std.proofs.lemmas.Iterator.Search.{any_from_yields_List}
use Rattle.am_universe.specs.Text.{same_text}
use Rattle.am_universe.proofs.UniverseLemmas.{list_any-map}
use Rattle.am_differences.specs.PartsView.{part_view}
use Rattle.am_differences.proofs.differences.has_name.Goals as goal

pub returns : goal.returns
returns c =
    any_from_yields_List (λ p. same_text p.name.now c.args.name.now) _ _ c.any.result
    c.any.ensures.ran (YieldsList-from_slice c.args.parts.now cc) (λ x b q k. search (rules, tests))
    ∙ sym (list_any-map (λ p. same_text p.0 c.args.name.now) part_view c.args.parts.now)
