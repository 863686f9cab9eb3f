-- The lines of routes, receivers and rules stand one behind the other.
use Rattle.std.proofs.Common.{◌≡◌, ◌++◌, List, map, subst, append_assoc}
use Rattle.std.specs.Prelude.{OnOk}
use Rattle.std.specs.List.{flat_map, enumerate_from, zip}
use Rattle.am_config.specs.ConfigView.{config_view}
use Rattle.am_lint.specs.FoundView.{said_of}
use Rattle.am_report_texts.specs.Line.{Line}
use Rattle.am_report_texts.specs.LineView.{line_view}
use Rattle.am_firing.specs.Reach.{reached_view}
use Rattle.am_firing.specs.FiringLines.{rule_lines, unreached_lines}
use Rattle.am_firing.proofs.unreached_lines.push_unreached.Goals as goal

pub returns : goal.returns
returns c =
    let config = config_view c.args.config.now in
    let whose = c.args.whose in
    let before = map line_view c.args.lines.now.items in
    let after = map line_view c.push_rule_lines.new.lines.items in
    let put : map line_view c.push_receiver_lines.new.lines.items
    ++ flat_map (rule_lines whose) (enumerate_from 0 (zip config.rules (zip c.as_slice-2.result.now c.args.rules.now)))
    ≡ before ++ unreached_lines whose config (reached_view c.args.reached.now) (map said_of c.args.routes.now)
    c.args.receivers.now c.args.rules.now =
    rw (
      c.in_ok-push_receiver_lines.ensures,
      c.in_ok-push_route_lines.ensures,
      c.as_slice.ensures.value,
      c.as_slice-2.ensures.value,
      c.if-not-reached.false,
    ) (simp append_assoc) in
    record {
      lines = subst (λ (ls : List Line). OnOk c.push_rule_lines.result (after ≡ ls)) put
          c.push_rule_lines.ensures;
    }
