-- The trimmed pattern searches for the text of the pattern.
use Rattle.std.proofs.Common.{subst, sym}
use Rattle.am_scan.specs.Trimming.{IsScannedSearch}
use Rattle.am_scan.proofs.pattern_scan.PatternScan.of.Goals as goal

pub invariant_of-result-clause-faithful : goal.invariant_of-result-clause-faithful
invariant_of-result-clause-faithful c =
    subst (IsScannedSearch c.args.bytes c.in_ok-nfa-2.nfa) (sym c.in_ok-pattern.ensures.ok)
    (c.in_ok-nfa-2.ensures c.args.pattern.now (rw c.in-Some.is at c.in_ok-nfa.ensures.search))
