use Rattle.std.proofs.Common.{◌≡◌, ◌-◌, true, length}
use Rattle.am_universe.specs.Choice.{admits}
use Rattle.am_search.proofs.Odometer.{filled}
use Rattle.am_search.proofs.answers.complete.Given as goal

abbrev pub invariant-loop-prefix : goal.invariant-loop-prefix
invariant-loop-prefix g l = record {
  admitted : admits (g.J.Judge.sizes l.judge) l.prefix ≡ true;
  same : filled (g.J.Judge.sizes l.judge) l.prefix ≡ filled (g.J.Judge.sizes l.judge) l.fn.prefix;
}

abbrev pub decreases-loop-prefix : goal.decreases-loop-prefix
decreases-loop-prefix g l = length (g.J.Judge.sizes l.judge) - length l.prefix
