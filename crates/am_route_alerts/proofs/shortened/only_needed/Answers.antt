-- The choice is one of the space, meets the given literals and fails the matcher.
use Rattle.std.proofs.Common.{sym, ◌∙◌, arith}
use Rattle.am_first_sets.proofs.CubeTruth.{matches_is}
use Rattle.am_first_sets.specs.PossibleSets.{possible_space}
use Rattle.am_route_alerts.proofs.OnlyNeeded.{is_only_needed}
use Rattle.am_route_alerts.proofs.shortened.only_needed.Goals as goal

pub returns : goal.returns
returns c =
    let known = c.known-item.result in
    let d = c.in-Some-len1.choice.now in
    is_only_needed (possible_space c.args.possible.now) c.args.given.now c.args.matchers.now known
    (omega (arith, c.in-Some-len1.len_at_least, c.in-Some-len1.len_below)) c.known-item.is d
    ((c.choices.ensures d).0 (c.has.ensures.0 c.if-not-has.false))
    (sym c.all_hold.ensures ∙ c.if-not-all_hold.false)
    (matches_is known.cube.now d ∙ sym c.must.ensures.verdict ∙ c.if-must.false)
