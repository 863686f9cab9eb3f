use Rattle.std.proofs.Common.{sym, ◌∙◌, ◌||◌, not, rules, tests}
use Rattle.std.proofs.lemmas.Iterator.{YieldsList-from_slice}
use Rattle.std.proofs.lemmas.Iterator.Search.{all_from_yields_List}
use Rattle.std.proofs.lemmas.List.Folds.{list_all-map}
use Rattle.serde_json.specs.View.{view}
use Rattle.am_universe.specs.Text.{same_text}
use Rattle.am_differences.specs.Differences.{has_value, values_of}
use Rattle.am_differences.specs.PartsView.{part_view, parts_view}
use Rattle.am_differences.proofs.PartSteps.{all_of_name}
use Rattle.am_differences.proofs.differences.has_values.Goals as goal

pub returns : goal.returns
returns c =
    let name = c.args.name.now in
    let others = values_of name (parts_view c.args.others.now) in
    all_from_yields_List
    (λ p. not (same_text p.name.now name) || has_value others (view p.value.now)) _ _ c.all.result
    c.all.ensures.ran (YieldsList-from_slice c.args.parts.now cc) (λ x b q k. search (rules, tests))
    ∙ sym (list_all-map (λ p. not (same_text p.0 name) || has_value others p.1) part_view
    c.args.parts.now)
    ∙ sym (all_of_name (has_value others) name (parts_view c.args.parts.now))
