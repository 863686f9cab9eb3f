-- The characters of two, of three and of four bytes.
use Rattle.std.proofs.Common.{sym, subst}
use Rattle.am_scan.specs.Characters.{AreParts}
use Rattle.am_scan.proofs.PartLemmas.{AreParts-first}
use Rattle.am_scan.proofs.character_sets.first_parts.Goals as goal

pub returns : goal.returns
returns c =
    subst (AreParts _ c.args.singles.now) (sym c.in_ok-vec.ensures.items)
    (AreParts-first c.args.singles.now c.in_ok-singles.singles c.in_ok-two.two c.in_ok-three.three c.in_ok-four.four c.in_ok-difference.field-0
    c.in_ok-difference-2.field-0 c.in_ok-difference-3.field-0 c.in_ok-singles.ensures c.in_ok-two.ensures c.in_ok-three.ensures c.in_ok-four.ensures
    c.in_ok-difference.ensures c.in_ok-difference-2.ensures c.in_ok-difference-3.ensures)
