use Rattle.std.proofs.Common.{rules, List, drop, ◌*◌, length, ap, sym, subst, ◌∙◌, length-take, arith}
use Rattle.am_judged_lists.specs.declared.list_set.TheConstants.{ROOM}
use Rattle.am_judged_lists.specs.Cube.{MaskedLabels}
use Rattle.am_judged_lists.specs.BlockView.{IsBlockOf}
use Rattle.am_judged_lists.specs.TableView.{part_at}
use Rattle.am_judged_lists.proofs.BlockLemmas.{each_place_pushed}
use Rattle.am_judged_lists.proofs.table.blocks_of.Goals as goal

pub of-requires : goal.of-requires
of-requires c =
    omega (arith, ap length c.part_at.ensures, length-take ROOM (drop (c.loop-i.i * ROOM) c.args.cubes.now))

pub loop-i-preserved : goal.loop-i-preserved
loop-i-preserved c =
    let blocks = c.loop-i.blocks.items in
    record {
      count = search rules;
      each = rw c.in_ok-push.ensures.items
          (each_place_pushed (λ i block. IsBlockOf (part_at c.args.cubes.now i) block) blocks c.in_ok-of.field-0 c.loop-i.invariant.each
          (subst (λ (xs : List MaskedLabels). IsBlockOf xs c.in_ok-of.field-0)
          (c.part_at.ensures ∙ ap (part_at c.args.cubes.now) (sym c.loop-i.invariant.count)) c.in_ok-of.ensures));
    }
