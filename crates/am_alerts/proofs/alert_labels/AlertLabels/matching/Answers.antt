use Rattle.std.proofs.Common.{ap, ◌∙◌, ◌&&◌}
use Rattle.std.proofs.lemmas.Result.{IfOk-weaker}
use Rattle.am_labels.specs.Matcher.{all_hold}
use Rattle.am_alerts.specs.AlertLabels.{flag}
use Rattle.am_alerts.proofs.AlertListLemmas.{all_flags}
use Rattle.am_alerts.proofs.alert_labels.AlertLabels.matching.Goals as goal

pub returns : goal.returns
returns c =
    let all = c.as_slice.ensures.value ∙ c.in_ok-all.ensures.all in
    record {
      matching = IfOk-weaker c.matched.result _ _
          (λ kept keeps. (
            keeps.0,
            λ i s at. keeps.1 i s at
                ∙ ap (λ b. b && all_hold s c.args.matchers.now)
                (ap (λ flags. flag flags i) all ∙ all_flags c.args.self.now i s at),
          )) c.matched.ensures.matched;
    }
