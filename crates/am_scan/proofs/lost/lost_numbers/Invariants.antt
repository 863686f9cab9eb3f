use Rattle.am_scan.specs.Lost.{AreUnfound}
use Rattle.am_scan.proofs.lost.lost_numbers.Given as goal

abbrev pub invariant-loop : goal.invariant-loop
invariant-loop l = AreUnfound l.rows l.lost.items
