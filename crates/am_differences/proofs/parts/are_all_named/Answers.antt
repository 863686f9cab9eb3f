use Rattle.std.proofs.Common.{map, sym, ap, ◌∙◌}
use Rattle.std.specs.List.{list_all}
use Rattle.serde_json.specs.View.{view}
use Rattle.am_differences.specs.Parts.{is_named, all_have_names}
use Rattle.am_differences.proofs.PartSteps.{array_items}
use Rattle.am_differences.proofs.parts.are_all_named.Goals as goal

pub returns-in-Array : goal.returns-in-Array
returns-in-Array c =
    let items = c.in-Array.items in
    c.are_named.ensures
    ∙ ap (λ vs. list_all is_named (map view vs)) c.as_slice.ensures.value
    ∙ sym (ap all_have_names (array_items c.args.value.now items c.in-Array.is))
