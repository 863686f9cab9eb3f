use Rattle.std.proofs.Common.{◌≡◌, true, length}
use Rattle.am_universe.specs.Choice.{admits}
use Rattle.am_search.specs.NextPrefix.{next_beside}
use Rattle.am_search.proofs.answers.go_beside.Given as goal

-- the positions that are removed do not change what comes beside the prefix
abbrev pub invariant-loop-position : goal.invariant-loop-position
invariant-loop-position g l = record {
  admitted : admits (g.J.Judge.sizes l.judge) l.prefix ≡ true;
  same : next_beside (g.J.Judge.sizes l.judge) l.prefix ≡ next_beside (g.J.Judge.sizes l.judge) l.fn.prefix;
}

abbrev pub decreases-loop-position : goal.decreases-loop-position
decreases-loop-position g l = length l.prefix
