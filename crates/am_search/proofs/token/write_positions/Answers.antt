use Rattle.std.specs.Fmt.{decimal}
use Rattle.std.proofs.Common.{◌++◌, ◌<◌, length, ap, arith}
use Rattle.std.proofs.lemmas.List.{take_all}
use Rattle.std.proofs.lemmas.Grind.{common_steps}
use Rattle.am_universe.proofs.Writing.{◌⟩◌, fails, ends, wrote_then, wrote_as, writes_as}
use Rattle.am_search.proofs.Positions.{joined, joined_through, joined_more, separator_more}
use Rattle.am_search.proofs.token.write_positions.Goals as goal

pub returns-in_err-write_position : goal.returns-in_err-write_position
returns-in_err-write_position g c =
    let l = c.loop-i in
    let within : l.i < length c.args.choice.now = omega arith in
    writes_as (joined_through c.args.choice.now l.i c.get.result l.separator.now within c.get.ensures.position l.invariant.separator)
    (l.invariant.written ⟩ fails {a = l.separator.now ++ decimal c.get.result} _ c.from_residual.ensures c.in_err-write_position.ensures)

pub loop-i-preserved : goal.loop-i-preserved
loop-i-preserved g c = grind (arith, common_steps, wrote_as, joined_more, wrote_then, separator_more)

pub returns : goal.returns
returns g c =
    let l = c.loop-i in
    ends tt (wrote_as (ap joined (take_all l.i c.args.choice.now (omega arith))) l.invariant.written)
