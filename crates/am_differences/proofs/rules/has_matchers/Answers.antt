use Rattle.std.proofs.Common.{◌∙◌, sym}
use Rattle.std.specs.List.{list_any}
use Rattle.am_differences.specs.RuleParts.{same_matcher}
use Rattle.am_differences.proofs.PartSteps.{all_here, all_more}
use Rattle.am_differences.proofs.rules.has_matchers.Goals as goal

pub returns-then-not-has_matcher : goal.returns-then-not-has_matcher
returns-then-not-has_matcher c =
    all_here (λ n. list_any (same_matcher n) c.args.matchers.now) c.args.others.now c.loop-i.i
    c.get.result.now c.get.ensures.matcher (sym c.has_matcher.ensures ∙ c.if-not-has_matcher.true)

pub loop-i-preserved : goal.loop-i-preserved
loop-i-preserved c =
    all_more (λ n. list_any (same_matcher n) c.args.matchers.now) c.args.others.now c.loop-i.i
    c.get.result.now c.get.ensures.matcher c.loop-i.invariant
    (sym c.has_matcher.ensures ∙ c.if-not-has_matcher.false)
