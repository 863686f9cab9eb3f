use Rattle.std.proofs.Common.{sym, ◌∙◌, ◌&&◌, rules, tests}
use Rattle.std.proofs.lemmas.Iterator.{YieldsList-from_slice}
use Rattle.std.proofs.lemmas.Iterator.Search.{any_from_yields_List}
use Rattle.serde_json.specs.View.{view}
use Rattle.am_universe.specs.Text.{same_text}
use Rattle.am_universe.proofs.UniverseLemmas.{list_any-map}
use Rattle.am_differences.specs.SameValue.{same_value}
use Rattle.am_differences.specs.PartsView.{part_view, parts_view}
use Rattle.am_differences.proofs.PartSteps.{any_of_name}
use Rattle.am_differences.proofs.differences.has_value.Goals as goal

pub returns : goal.returns
returns c =
    let name = c.args.name.now in
    let value = view c.args.value.now in
    any_from_yields_List (λ p. same_text p.name.now name && same_value value (view p.value.now)) _ _
    c.any.result c.any.ensures.ran (YieldsList-from_slice c.args.parts.now cc)
    (λ x b q k. search (rules, tests))
    ∙ sym (list_any-map (λ p. same_text p.0 name && same_value value p.1) part_view
    c.args.parts.now)
    ∙ sym (any_of_name (same_value value) name (parts_view c.args.parts.now))
