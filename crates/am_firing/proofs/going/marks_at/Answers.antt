-- All positions are marked.
use Rattle.std.proofs.Common.{◌==◌, false, ap, ◌∙◌, arith}
use Rattle.std.specs.List.{list_any}
use Rattle.std.proofs.lemmas.List.{take_all}
use Rattle.std.proofs.lemmas.List.FromFn.{fill_by_all}
use Rattle.am_firing.proofs.going.marks_at.Goals as goal

pub returns : goal.returns
returns c =
    let positions = c.args.positions.now in
    fill_by_all (λ i. list_any (λ position. position == i) positions) c.loop-position.marks.items
    c.args.count false c.loop-position.invariant.long
    (λ i lt. c.loop-position.invariant.marked i lt
    ∙ ap (list_any (λ position. position == i))
    (take_all c.loop-position.position-index positions (omega arith)))
