use Rattle.std.proofs.Common.{◌≡◌, ◌∷◌, [], take}
use Rattle.std.specs.List.{flat_map}
use Rattle.serde_json.specs.Data.{no_members, string}
use Rattle.serde_json.specs.View.{members_view}
use Rattle.am_report_texts.specs.LineData.{with_members}
use Rattle.am_report_texts.proofs.lines_json.put_labels.Given as goal

abbrev pub invariant-loop-label : goal.invariant-loop-label
invariant-loop-label l =
    members_view l.set.entries ≡ with_members no_members
    (flat_map (λ label. (label.0.now, string label.1.now) ∷ []) (take l.label-index l.labels))
