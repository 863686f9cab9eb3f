use Rattle.std.proofs.Common.{◌≡◌, map, take}
use Rattle.am_universe.specs.LabelSet.{label_pairs}
use Rattle.am_report_texts.proofs.shown.label_set.Given as goal

-- The pairs of the first labels are there.
abbrev pub invariant-loop-i : goal.invariant-loop-i
invariant-loop-i l =
    map (λ p. (p.0.now, p.1.now)) l.labels.items
    ≡ label_pairs (take l.i l.universe) (take l.i l.choice)
