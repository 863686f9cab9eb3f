use Rattle.am_universe.specs.Shown.{nothing}
use Rattle.am_universe.proofs.terminal.Terminal.new.Goals as goal

pub invariant_of-result-clause-shows : goal.invariant_of-result-clause-shows
invariant_of-result-clause-shows g c same = rw (c.of-start.ensures, c.new.ensures.nothing) (∣ nothing ∣₁)
