use Rattle.std.proofs.Common.{◌≡◌, drop}
use Rattle.am_rule_outcomes.specs.Narrowing.{matchers_on}
use Rattle.am_rule_outcomes.proofs.narrowing.matchers_on.Given as goal

-- the labels so far have other names
abbrev pub invariant-loop-label : goal.invariant-loop-label
invariant-loop-label l =
    matchers_on l.asked l.name ≡ matchers_on (drop l.label-index l.asked) l.name
