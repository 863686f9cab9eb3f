-- The lines of each kind, one behind the other.
use Rattle.std.proofs.Common.{◌≡◌, ◌++◌, ◌∙◌, List, map, Option, Some, None, option_map, is_some}
use Rattle.std.proofs.Common.{append_assoc, refl, sym, ap, subst, true, false, true≢false}
use Rattle.std.proofs.lemmas.Bool.{false≢true}
use Rattle.std.proofs.lemmas.List.{append-nil}
use Rattle.am_universe.specs.LabelSet.{LabelMap}
use Rattle.am_config.specs.ConfigFile.{Configuration}
use Rattle.am_eval.specs.World.{World}
use Rattle.am_report_texts.specs.Line.{Line}
use Rattle.am_report_texts.specs.LineView.{line_view}
use Rattle.am_lint.specs.FoundView.{said_of}
use Rattle.am_lint.specs.LintLines.{Said, report_lines}
use Rattle.am_lint.specs.declared.found.ReceiverFinding.{ReceiverFinding}
use Rattle.am_idle.specs.RuleLines.{rule_lines}
use Rattle.am_idle.specs.SilenceLines.{silence_lines}
use Rattle.am_idle.specs.declared.rule_findings.RuleFinding.{RuleFinding}
use Rattle.am_idle.specs.declared.silences.SilenceFinding.{SilenceFinding}
use Rattle.am_firing.specs.Reach.{reached_view}
use Rattle.am_firing.specs.FiringLines.{firing_lines, unreached_lines}
use Rattle.am_firing.specs.declared.reached.Whose.TheVariants as whose_are
use Rattle.am_unseen.specs.UnseenLines.{unseen_lines}
use Rattle.am_reports.specs.LintLines.{each_lines, alert_lines, reached_lines}
use Rattle.am_reports.proofs.linting.lines_of.Goals as goal
use Rattle.am_reports.proofs.linting.lines_of.Goals.{in-Some+in_ok-push_unreached, in_default}
use Rattle.am_reports.proofs.linting.lines_of.Goals.{then-is_some+in_ok-push_firing_lines}
use Rattle.am_reports.proofs.linting.lines_of.Goals.{else-is_some}

-- the lines of six kinds, with the brackets moved
joined : (a b c d e f : List Line)
    → ((((a ++ b) ++ c) ++ d) ++ e) ++ f ≡ a ++ (b ++ (c ++ (d ++ (e ++ f))))
joined a b c d e f =
    append_assoc (((a ++ b) ++ c) ++ d) e f ∙ append_assoc ((a ++ b) ++ c) d (e ++ f)
    ∙ append_assoc (a ++ b) c (d ++ (e ++ f)) ∙ append_assoc a b (c ++ (d ++ (e ++ f)))

-- whether there is a file of alerts
module _ {A : Type 0} (f : A → List LabelMap) (w : World) (said : List Said)
    (receivers : List (Option ReceiverFinding)) (rules : List (Option RuleFinding))
    (silences : List (Option SilenceFinding)) where
  with_alerts : (alerts : Option A) → true ≡ is_some alerts
      → firing_lines w said receivers rules silences
      ≡ alert_lines w (option_map f alerts) said receivers rules silences
  with_alerts None given = absurd (true≢false given)
  with_alerts (Some alerts) given = refl

  without_alerts : (alerts : Option A) → false ≡ is_some alerts
      → (lines : List Line)
      → lines ≡ lines ++ alert_lines w (option_map f alerts) said receivers rules silences
  without_alerts None given lines = sym (append-nil lines)
  without_alerts (Some alerts) given lines = absurd (false≢true given)

pub returns : goal.returns
returns c =
    let w = c.args.world.now in
    let found = c.args.found.now in
    let said = map said_of found.routes.routes.items in
    let receivers = found.routes.receivers.items in
    let rules = found.rules.items in
    let silences = found.silences.items in
    let reached : map line_view c.match-found.lines.items
    ≡ map line_view c.push_silences.new.lines.items
    ++ reached_lines w.config (option_map reached_view found.reached) said receivers rules =
    elim c.match-found.branch [
      | in-Some+in_ok-push_unreached v ↦ rw (v.lines-is, v.in-Some.is)
          (subst (λ (config : Configuration). map line_view v.push_unreached.new.lines.items
          ≡ map line_view c.push_silences.new.lines.items
          ++ unreached_lines whose_are.Rules config (reached_view v.in-Some.reached) said receivers
          rules) c.config-config.ensures.config
          (rw (
            c.as_slice-routes.ensures.value,
            c.as_slice-receivers.ensures.value,
            c.as_slice-rules.ensures.value,
          ) at v.in_ok-push_unreached.ensures.lines))
      | in_default v ↦ rw (v.lines-is, v.in_default.is)
          (sym (append-nil (map line_view c.push_silences.new.lines.items)))
    ] in
    let firing : map line_view c.if-is_some.lines.items
    ≡ map line_view c.match-found.lines.items
    ++ alert_lines w (option_map (λ a. a.now) c.args.alerts) said receivers rules silences =
    elim c.if-is_some.branch [
      | then-is_some+in_ok-push_firing_lines v ↦ rw (
        v.lines-is,
        ← with_alerts (λ a. a.now) w said receivers rules silences c.args.alerts
            v.if-is_some.ensures,
      ) (rw (
        c.as_slice-routes.ensures.value,
        c.as_slice-receivers.ensures.value,
        c.as_slice-rules.ensures.value,
        c.as_slice-silences.ensures.value,
      ) at v.in_ok-push_firing_lines.ensures.lines)
      | else-is_some v ↦ rw v.lines-is
          (without_alerts (λ a. a.now) w said receivers rules silences c.args.alerts
          v.if-is_some.ensures (map line_view c.match-found.lines.items))
    ] in
    let first : map line_view c.push_lint_lines.new.lines.items
    ≡ report_lines found.routes.universe w.config said receivers =
    subst (λ (config : Configuration). map line_view c.push_lint_lines.new.lines.items
    ≡ report_lines found.routes.universe config said receivers) c.config-config.ensures.config
    (rw (
      c.new-lines.ensures.items,
      c.as_slice-routes.ensures.value,
      c.as_slice-receivers.ensures.value,
    ) at c.in_ok-push_lint_lines.ensures.lines) in
    let listed : c.rules.result.now ≡ w.config.rules =
    c.rules.ensures.rules ∙ ap (λ (x : Configuration). x.rules) c.config-config.ensures.config in
    let ruled : map line_view c.push_rules.new.lines.items
    ≡ map line_view c.push_lint_lines.new.lines.items
    ++ each_lines rule_lines w.config.rules rules =
    rw (c.as_slice-rules.ensures.value, listed) at c.in_ok-push_rules.ensures.lines in
    let silent : map line_view c.push_silences.new.lines.items
    ≡ map line_view c.push_rules.new.lines.items
    ++ each_lines silence_lines w.silences silences =
    rw (c.as_slice-silences.ensures.value, c.silences.ensures.silences)
    at c.in_ok-push_silences.ensures.lines in
    rw (c.in_ok-push_unseen.ensures.lines, firing, reached, silent, ruled, first)
    (joined (report_lines found.routes.universe w.config said receivers)
    (each_lines rule_lines w.config.rules rules) (each_lines silence_lines w.silences silences)
    (reached_lines w.config (option_map reached_view found.reached) said receivers rules)
    (alert_lines w (option_map (λ a. a.now) c.args.alerts) said receivers rules silences)
    (unseen_lines w c.args.sets.now))
