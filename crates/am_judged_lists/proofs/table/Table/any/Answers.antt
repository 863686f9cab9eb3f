use Rattle.std.proofs.Common.{◌∙◌}
use Rattle.am_judged_lists.specs.Certainty.{passes}
use Rattle.am_judged_lists.specs.Cube.{verdict_at}
use Rattle.am_judged_lists.proofs.TableLemmas.{any_by_next}
use Rattle.am_judged_lists.proofs.table.Table.any.Goals as goal

pub returns : goal.returns
returns c = record {
  any = c.is_some.ensures ∙ any_by_next (λ cube. passes c.args.certainty (verdict_at cube c.args.prefix.now))
      c.args.self.now c.next.result c.next.ensures.some c.next.ensures.none;
}
