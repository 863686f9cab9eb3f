use Rattle.am_complete.proofs.LabelStates.{declared_if}
use Rattle.am_complete.proofs.made_universe.is_declared.Goals as goal

pub returns : goal.returns
returns c =
    declared_if c.args.universe.now c.args.name.now c.position.result c.is_some.result
    c.position.ensures.found c.position.ensures.none c.is_some.ensures
