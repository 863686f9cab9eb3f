-- A wide rule, or another one.
use Rattle.std.proofs.Common.{◌≡◌, map, refl, ap, sym, ◌∙◌}
use Rattle.std.proofs.lemmas.List.{map-append, append-nil}
use Rattle.am_report_texts.specs.LineView.{line_view}
use Rattle.am_firing.specs.Wide.{widest, inhibited_counts}
use Rattle.am_firing.proofs.wide_lines.push_wide_line.Goals as goal
use Rattle.am_firing.proofs.wide_lines.push_wide_line.Goals.{in-Some+in_ok-wide_line+in_ok-push, in_default}

pub returns : goal.returns
returns c =
    let found : c.widest.result ≡ widest (inhibited_counts c.args.rule.now c.args.alerts.now) =
    c.widest.ensures.widest ∙ ap widest (c.as_slice.ensures.value ∙ c.in_ok-counts.ensures) in
    elim c.match-widest.branch [
      | in-Some+in_ok-wide_line+in_ok-push w ↦
          let is = sym found ∙ w.in-Some.is in
          rw (w.lines-is, w.in_ok-push.ensures.items, map-append line_view, w.in_ok-wide_line.ensures, is) refl
      | in_default w ↦
          let is = sym found ∙ w.in_default.is in
          rw (w.lines-is, is) (sym (append-nil (map line_view c.args.lines.now.items)))
    ]
