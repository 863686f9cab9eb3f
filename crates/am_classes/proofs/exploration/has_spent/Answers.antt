use Rattle.std.proofs.Common.{refl}
use Rattle.std.proofs.lemmas.Option.{slice_get_read}
use Rattle.am_classes.proofs.exploration.has_spent.Goals as goal

pub returns-then-are_spent : goal.returns-then-are_spent
returns-then-are_spent c = λ _. (
  c.loop-next.next-index,
  c.next-item.result,
  slice_get_read _ _ _ _ refl c.loop-next-test.true c.next-item.is,
  c.are_spent.ensures c.if-are_spent.true,
)
