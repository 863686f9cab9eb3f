use Rattle.std.proofs.Common.{refl, arith}
use Rattle.std.proofs.lemmas.List.FromFn.{map-range_with_len_more}
use Rattle.am_lint.specs.FoundView.{receiver_finding}
use Rattle.am_lint.proofs.finding.found_receivers.Goals as goal

pub loop-i-preserved : goal.loop-i-preserved
loop-i-preserved c =
    rw (
      c.in_ok-push.ensures.items,
      c.loop-i.invariant,
      c.receiver_finding.ensures.finding,
      map-range_with_len_more (receiver_finding c.args.routes.now) 0 c.loop-i.i c.loop-i.i
          (omega arith),
    ) refl
