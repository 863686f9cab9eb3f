use Rattle.std.proofs.Common.{◌∙◌, sym}
use Rattle.am_differences.specs.RuleParts.{same_matcher}
use Rattle.am_differences.proofs.PartSteps.{any_here, any_more}
use Rattle.am_differences.proofs.rules.has_matcher.Goals as goal

pub returns-then-same_matcher : goal.returns-then-same_matcher
returns-then-same_matcher c =
    any_here (same_matcher c.args.matcher.now) c.args.matchers.now c.loop-i.i c.get.result.now
    c.get.ensures.matcher (sym c.same_matcher.ensures ∙ c.if-same_matcher.true)

pub loop-i-preserved : goal.loop-i-preserved
loop-i-preserved c =
    any_more (same_matcher c.args.matcher.now) c.args.matchers.now c.loop-i.i c.get.result.now
    c.get.ensures.matcher c.loop-i.invariant (sym c.same_matcher.ensures ∙ c.if-same_matcher.false)
