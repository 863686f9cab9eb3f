use Rattle.std.proofs.Common.{◌≡◌, ◌∷◌, ◌++◌, [], List, Option, Some, None, Bor, true, false, map, cond}
use Rattle.std.proofs.Common.{option_copied, refl, sym, ap, ◌∙◌}
use Rattle.std.specs.Prelude.{is_none, is_some}
use Rattle.std.proofs.lemmas.List.{map-append}
use Rattle.am_report_texts.specs.Line as line
use Rattle.am_report_texts.specs.LineView.{line_view, piece_view}
use Rattle.am_report_texts.specs.declared.lines.Level.TheVariants as level_is
use Rattle.am_outcomes.proofs.ChangeSteps.{two_more}
use Rattle.am_alerting_rules.specs.RuleAlerts.{fixed_labels}
use Rattle.am_alerting_rules.specs.RuleView.{pairs_view}
use Rattle.am_rule_outcomes.specs.ShownLabels.{fixed_shown}
use Rattle.am_rule_outcomes.specs.WhereLines.{no_alert_line, rule_pieces}
use Rattle.am_rule_outcomes.proofs.where_lines.push_no_alert.Goals as goal

copied_none : {X : Type 0} (o : Option (Bor X)) → is_some o ≡ false → is_none (option_copied o) ≡ true
copied_none None e = refl
copied_none (Some x) e = absurd cc

pub returns : goal.returns
returns c =
    let r = c.args.rule.now in
    let labels : pairs_view c.in_ok-labels.labels.items ≡ fixed_shown (fixed_labels r) =
    c.in_ok-labels.ensures ∙ ap (λ ls. fixed_shown (pairs_view ls)) c.as_slice.ensures.value
    ∙ ap fixed_shown c.in_ok-fixed.ensures.labels in
    let pieces = two_more piece_view _ _ _ _ _ (rule_pieces r (fixed_shown (fixed_labels r)))
    c.in_ok-push.ensures.items c.in_ok-push-2.ensures.items
    (c.in_ok-pieces.ensures ∙ ap (rule_pieces r) labels) in
    ap (map line_view) c.in_ok-push-3.ensures.items
    ∙ map-append line_view c.args.lines.now.items _
    ∙ ap (λ (ps : List line.Piece). map line_view c.args.lines.now.items
    ++ (record { level = level_is.Plain; pieces = ps }) ∷ []) pieces
    ∙ ap (λ b. map line_view c.args.lines.now.items ++ cond b (no_alert_line r ∷ []) [])
    (sym (copied_none c.args.asked (sym c.is_some.ensures ∙ c.if-is_some.false)))
