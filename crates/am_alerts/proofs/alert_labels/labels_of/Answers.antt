use Rattle.std.proofs.Common.{◌≡◌, ◌≤◌, Some, map, length, ◌∙◌, arith, append_assoc, append-nil}
use Rattle.std.specs.Prelude.{slice_get}
use Rattle.std.proofs.lemmas.List.{drop_all}
use Rattle.am_universe.proofs.Members.{left_at}
use Rattle.am_alerts.specs.AlertLabels.{label_view, labels_of}
use Rattle.am_alerts.proofs.alert_labels.labels_of.Goals as goal

pub loop-alert-preserved : goal.loop-alert-preserved
loop-alert-preserved c =
    let i = c.loop-alert.alert in
    let s = c.get.result.now in
    let here : slice_get c.args.alerts.now i ≡ Some s = c.get.ensures.alert in
    record {
      labels = rw c.in_ok-add_labels.ensures.labels
          (append_assoc (map label_view c.loop-alert.labels.items) (labels_of (i, s)) _
          ∙ (rw (left_at c.args.alerts.now i s here) at c.loop-alert.invariant.labels));
      names = c.in_ok-add_labels.ensures.names;
      values = c.in_ok-add_labels.ensures.values;
    }

pub returns : goal.returns
returns c =
    let i = c.loop-alert.alert in
    let all : length c.args.alerts.now ≤ i =
    omega (arith, c.len-alert-end.ensures.count, c.loop-alert-test.false) in
    record {
      labels = rw (drop_all i c.args.alerts.now all, append-nil) at c.loop-alert.invariant.labels;
      names = c.loop-alert.invariant.names;
      values = c.loop-alert.invariant.values;
    }
