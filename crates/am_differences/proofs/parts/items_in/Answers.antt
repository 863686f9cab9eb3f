use Rattle.std.proofs.Common.{map, sym, ap, ◌∙◌, [], unwrap_or, option_map}
use Rattle.serde_json.specs.View.{view}
use Rattle.am_json.specs.Json.{items_in_field}
use Rattle.am_differences.proofs.PartSteps.{array_items}
use Rattle.am_differences.proofs.parts.items_in.Goals as goal

pub returns-in-Array : goal.returns-in-Array
returns-in-Array c =
    ap (map view) c.as_slice.ensures.value
    ∙ sym (ap (λ o. unwrap_or o [])
    (array_items c.in-Some.value.now c.in-Array.items c.in-Array.is))
    ∙ sym (ap (λ f. items_in_field (option_map (λ v. view v.now) f)) c.in-Some.is)
