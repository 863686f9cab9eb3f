use Rattle.std.proofs.Common.{arith}
use Rattle.std.proofs.lemmas.Grind.{common_steps}
use Rattle.am_complete.proofs.LabelStates.{standing_at}
use Rattle.am_complete.proofs.LabelTexts.{none_found}
use Rattle.am_complete.proofs.label_texts.standing_texts.Goals as goal

pub returns-in-Some : goal.returns-in-Some
returns-in-Some c = grind (arith, common_steps, standing_at)

pub returns-in_ok-absence_alone-in-None : goal.returns-in_ok-absence_alone-in-None
returns-in_ok-absence_alone-in-None c =
    grind (
      arith,
      common_steps,
      none_found,
      c.impossible.ensures.lists,
      c.in_ok-absence_alone-in-None.ensures,
      c.in-None.ensures.none,
      c.universe.ensures.labels,
      c.possible_texts.ensures,
    )
