-- The answer that is kept is the one of the search.
use Rattle.std.proofs.Common.{arith}
use Rattle.std.proofs.lemmas.Grind.{common_steps}
use Rattle.am_labels.specs.PatternView.{has_match}
use Rattle.am_labels.proofs.pattern.Search.is_match.Goals as goal

pub invariant_of-self : goal.invariant_of-self
invariant_of-self c = (
  grind (arith, common_steps),
  c.keep.ensures (has_match c.self.inside.nfa.now) c.self.invariant.1
      c.has_match-found.ensures.found,
)
