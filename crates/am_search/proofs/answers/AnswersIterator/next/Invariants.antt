use Rattle.std.proofs.Common.{◌≡◌, ◌≤◌, ◌-◌, length}
use Rattle.am_search.specs.Visits.{visited}
use Rattle.am_search.proofs.answers.AnswersIterator.next.Given as goal

-- more prefixes may have been judged, but no choice was given
abbrev pub invariant-loop-self : goal.invariant-loop-self
invariant-loop-self g l = record {
  judge : l.self.judge.now ≡ l.fn.self.judge.now;
  start : l.self.start ≡ l.fn.self.start;
  budget : l.self.budget ≡ l.fn.self.budget;
  state : l.self.state ≡ l.fn.self.state;
  given : l.self.given.items ≡ l.fn.self.given.items;
  judged : length l.fn.self.judged.items ≤ length l.self.judged.items;
}

abbrev pub decreases-loop-self : goal.decreases-loop-self
decreases-loop-self g l =
    length (visited (g.J.Judge.sizes l.self.judge.now) (g.J.Judge.verdict l.self.judge.now) l.self.start)
    - length l.self.judged.items
