use Rattle.std.proofs.Common.{◌≡◌, length, arith}
use Rattle.std.proofs.lemmas.List.{length-map}
use Rattle.am_universe.specs.Universe.{Label, sizes}
use Rattle.am_judged_lists.proofs.BoxLemmas.{inside_whole, whole_inside}
use Rattle.am_judged_lists.proofs.position_box.PositionBox.all.Goals as goal

pub returns-clause-all : goal.returns-clause-all
returns-clause-all c = λ d.
    let u = c.args.universe.now in
    let b = c.loop-label.masks.items in
    let count = c.loop-label.label in
    let same : length (sizes u) ≡ length u = length-map u (λ (l : Label). length l.values) in
    let whole : count ≡ length (sizes u) =
    omega (arith, same, c.loop-label-test.false, c.loop-label.auto.label-end, c.len-labels.ensures.len) in
    let full = c.loop-label.invariant in
    (inside_whole (sizes u) b count full whole d, whole_inside (sizes u) b count full whole d)
