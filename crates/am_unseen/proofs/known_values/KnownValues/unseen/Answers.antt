use Rattle.std.proofs.Common.{◌∙◌}
use Rattle.am_unseen.proofs.known_values.KnownValues.unseen.Goals as goal

pub invariant_of-self : goal.invariant_of-self
invariant_of-self c = (
  c.kept_or_found.ensures.same ∙ c.self.invariant.0,
  rw (← c.in-Equal.ensures.op) at c.kept_or_found.ensures.kept,
  c.self.invariant.2,
)

pub invariant_of-self-in-Matches : goal.invariant_of-self-in-Matches
invariant_of-self-in-Matches c = (
  c.kept_or_found-in-Matches.ensures.same ∙ c.self.invariant.0,
  c.self.invariant.1,
  rw (← c.in-Matches.ensures.op) at c.kept_or_found-in-Matches.ensures.kept,
)
