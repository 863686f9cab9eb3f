-- No state reads on at the end of a text.
use Rattle.am_scan.specs.Scan.{Follows}
use Rattle.am_scan.proofs.StepLemmas.{FollowsText-end}
use Rattle.am_scan.proofs.pattern_scan.PatternScan.end.Goals as goal

pub returns : goal.returns
unfolding Follows
returns c = rw c.new.ensures.items (FollowsText-end c.args.self.now.nfa c.args.self.now.sight c.args.self.now.bytes)
