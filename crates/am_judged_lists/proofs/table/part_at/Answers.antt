use Rattle.std.proofs.Common.{◌*◌, ◌∙◌, ap, drop, take, length-drop, arith}
use Rattle.std.proofs.lemmas.List.{take_min}
use Rattle.am_judged_lists.proofs.table.part_at.Goals as goal

pub returns : goal.returns
returns c =
    let first = c.args.i * 128 in
    let rest = drop first c.args.cubes.now in
    ap (λ n. take n rest) (omega (arith, c.min-end.ensures, c.requires, length-drop first c.args.cubes.now))
    ∙ take_min 128 rest
