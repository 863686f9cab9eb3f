-- The alert of a turn is matched, or it is not, like those before.
use Rattle.std.proofs.Common.{◌≡◌, true, false, sym, ap, ◌∙◌}
use Rattle.am_universe.proofs.Members.{in_at}
use Rattle.am_universe.specs.LabelSet.{LabelMap}
use Rattle.am_labels.specs.Matcher.{all_hold}
use Rattle.am_labels.proofs.Passing.{in_any}
use Rattle.am_complete.proofs.LabelStates.{none_more}
use Rattle.am_idle.proofs.silences.matches_any.Goals as goal

pub returns-then-branch : goal.returns-then-branch
returns-then-branch c =
    let alerts = c.args.alerts.now in
    let ms = c.args.matchers.now in
    let alert = c.get.result.now in
    let passes : all_hold alert ms ≡ true =
    ap (all_hold alert) (sym c.loop-i.invariant.same) ∙ sym c.in_ok-matches.ensures.matched
    ∙ c.if-branch.true in
    sym (in_any (λ (x : LabelMap). all_hold x ms) alerts alert
    (in_at alerts c.loop-i.i alert c.get.ensures.alert) passes)

pub loop-i-preserved : goal.loop-i-preserved
loop-i-preserved c =
    let alerts = c.args.alerts.now in
    let ms = c.args.matchers.now in
    let alert = c.get.result.now in
    let fails : all_hold alert ms ≡ false =
    ap (all_hold alert) (sym c.loop-i.invariant.same) ∙ sym c.in_ok-matches.ensures.matched
    ∙ c.if-branch.false in
    record {
      none = none_more (λ (x : LabelMap). all_hold x ms) alerts c.loop-i.i alert
          c.get.ensures.alert c.loop-i.invariant.none fails;
      same = c.in_ok-matches.ensures.same ∙ c.loop-i.invariant.same;
    }
