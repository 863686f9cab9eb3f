use Rattle.std.proofs.Common.{◌≡◌, ◌-◌, length}
use Rattle.am_alerts.proofs.judge.Judge.answer.Given as goal

-- only the place among the answers moves
abbrev pub invariant-loop-self : goal.invariant-loop-self
invariant-loop-self l = record {
  test : l.self.test ≡ l.fn.self.test;
  found : l.self.found ≡ l.fn.self.found;
  before : l.self.before ≡ l.fn.self.before;
}

abbrev pub decreases-loop-self : goal.decreases-loop-self
decreases-loop-self l = length l.self.before.items - l.self.passed
