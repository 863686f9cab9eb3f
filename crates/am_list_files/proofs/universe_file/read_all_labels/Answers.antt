use Rattle.std.proofs.Common.{List, map, codes}
use Rattle.serde_json.specs.Data.{Data}
use Rattle.serde_json.specs.View.{view}
use Rattle.am_universe.specs.Universe.{Label}
use Rattle.am_json.specs.Pointer.{to_field}
use Rattle.am_json.specs.Reading.{Reading, reading_within, required_items}
use Rattle.am_list_files.specs.UniverseForm.{all_labels_form, labels_form}
use Rattle.am_json.proofs.Readings.{gives_later, within_gives}
use Rattle.am_list_files.proofs.universe_file.read_all_labels.Goals as goal

pub returns : goal.returns
unfolding all_labels_form
returns c =
    let items = map view c.in_ok-items.items.now in
    let labels : List Data → Reading (List Label) =
    λ ds. reading_within (to_field (codes "labels")) (labels_form ds) in
    let last =
    within_gives (λ u. u) (to_field (codes "labels")) c.read_labels.result c.within_field.result
    (labels_form items) c.read_labels.ensures c.within_field.ensures.within in
    gives_later (λ u. u) c.within_field.result (required_items (codes "labels") (view c.args.value.now))
    labels items c.in_ok-items.ensures.reading last
