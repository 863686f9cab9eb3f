use Rattle.std.proofs.Common.{◌≡◌, fold, map, take}
use Rattle.am_report_texts.specs.EachOnce.{with_text}
use Rattle.am_differences.specs.PartsView.{parts_view}
use Rattle.am_differences.proofs.differences.push_names.Given as goal

abbrev pub invariant-loop-part : goal.invariant-loop-part
invariant-loop-part l =
    map (λ n. n.now) l.names.items
    ≡ fold with_text (map (λ n. n.now) l.initial.names.items)
    (map (λ p. p.0) (parts_view (take l.part-index l.parts)))
