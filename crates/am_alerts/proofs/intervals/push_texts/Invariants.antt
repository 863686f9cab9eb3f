use Rattle.std.proofs.Common.{◌≡◌, fold, map, drop}
use Rattle.std.specs.List.{filter_map}
use Rattle.serde_json.specs.Find.{as_str}
use Rattle.serde_json.specs.View.{view}
use Rattle.am_report_texts.specs.EachOnce.{with_text}
use Rattle.am_alerts.specs.Intervals.{texts_in}
use Rattle.am_alerts.proofs.intervals.push_texts.Given as goal

-- the names so far, and then the texts that are left, are all names
abbrev pub invariant-loop-item : goal.invariant-loop-item
invariant-loop-item l =
    fold with_text (map (λ n. n.now) l.names.items)
    (filter_map as_str (map view (drop l.item-index l.items)))
    ≡ fold with_text (map (λ n. n.now) l.initial.names.items) (texts_in (view l.value))
