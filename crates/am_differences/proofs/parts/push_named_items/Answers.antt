use Rattle.std.proofs.Common.{◌≡◌, Some, None, option_map, sym, ap, ◌∙◌, arith}
use Rattle.std.proofs.lemmas.Grind.{common_steps}
use Rattle.serde_json.specs.View.{view}
use Rattle.am_differences.specs.Parts.{named_item}
use Rattle.am_differences.specs.PartsView.{part_view}
use Rattle.am_differences.proofs.PartSteps.{filter_map_more}
use Rattle.am_differences.proofs.parts.push_named_items.Goals as goal
use Rattle.am_differences.proofs.parts.push_named_items.Goals.{in-Some+in_ok-push, in_default}

pub loop-value-preserved : goal.loop-value-preserved
loop-value-preserved c =
    let more =
    filter_map_more view named_item c.items_in-items.result.now c.loop-value.value-index
    c.value-item.result c.loop-value-test.true c.value-item.is in
    let same = c.named_item.ensures in
    elim c.match-named_item.branch [
      | in-Some+in_ok-push w ↦
          let has : named_item (view c.value-item.result) ≡ Some (part_view w.in-Some.part) =
          sym same ∙ ap (option_map part_view) w.in-Some.is in
          let so = rw has at more in
          grind (arith, common_steps, so)
      | in_default w ↦
          let has : named_item (view c.value-item.result) ≡ None =
          sym same ∙ ap (option_map part_view) w.in_default.is in
          let so = rw has at more in
          grind (arith, common_steps, so)
    ]
