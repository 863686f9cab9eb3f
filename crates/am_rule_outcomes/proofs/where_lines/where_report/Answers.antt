use Rattle.std.proofs.Common.{ℕ, Bool, take, ◌≡◌, ◌<◌, ◌≤◌, ◌+◌, ◌++◌, List, Option, map, length, cond, option_map, Some, option_copied}
use Rattle.std.proofs.Common.{sym, ap, ◌∙◌, subst, arith}
use Rattle.std.specs.Prelude.{slice_get, IfSome}
use Rattle.std.specs.List.{flat_map, count_by}
use Rattle.std.proofs.lemmas.Option.{slice_get-map}
use Rattle.std.proofs.lemmas.List.{length-map, length-append, take_all}
use Rattle.std.proofs.lemmas.Simd.{map-map}
use Rattle.am_complete.proofs.LabelStates.{stands_at}
use Rattle.am_config.specs.ConfigView.{config_view}
use Rattle.am_report_texts.specs.Line.{Line}
use Rattle.am_report_texts.specs.LineView.{line_view}
use Rattle.am_alerting_rules.specs.RulesFile.{AlertingRule}
use Rattle.am_rule_outcomes.specs.declared.where_lines.NarrowedReceivers.{NarrowedReceivers}
use Rattle.am_rule_outcomes.specs.NarrowingView.{HaveWholeFirsts, narrowed_in, narrowed_of, narrowed_receivers_view}
use Rattle.am_rule_outcomes.specs.NarrowingView.{narrowed_with, outcomes_shown, rule_outcomes_view}
use Rattle.am_rule_outcomes.specs.ReceiverOutcomes.{receiver_outcomes}
use Rattle.am_rule_outcomes.specs.RuleOutcomes.{RuleOutcome, rule_outcomes_shown, with_outcomes}
use Rattle.am_rule_outcomes.specs.RuleOutcomes.{with_rule_outcomes}
use Rattle.am_rule_outcomes.specs.WhereLines.{has_lines, last_pieces, rule_lines}
use Rattle.am_rule_outcomes.proofs.WhereLines.{with_receivers, whole_at_position, shown_at_position}
use Rattle.am_rule_outcomes.proofs.RulesFound.{counted_more, found_at, found_length, joined_more}
use Rattle.am_rule_outcomes.proofs.WhereLines.{some_there, none_there}
use Rattle.am_rule_outcomes.proofs.where_lines.where_report.Goals as goal
use Rattle.am_rule_outcomes.proofs.where_lines.where_report.Goals.{After-index-rules-i, then-len-before, else-len-before}

-- a rule with the receivers of its outcomes
abbrev with_receivers_of :
    AlertingRule × List (List (List ℕ) × List (List ℕ × List ℕ)) → AlertingRule × List RuleOutcome
with_receivers_of rule = (rule.0, receiver_outcomes rule.1)

-- the receivers of each narrowed universe
all_receivers : (c : After-index-rules-i) → map narrowed_receivers_view c.as_slice.result.now
    ≡ map with_receivers (narrowed_in c.args.found.now)
all_receivers c =
    ap (map narrowed_receivers_view) c.as_slice.ensures.value ∙ c.in_ok-each.ensures
    ∙ sym (map-map with_receivers (narrowed_with c.args.found.now.universe) c.args.found.now.each.items)

pub push_rule_lines-requires : goal.push_rule_lines-requires
push_rule_lines-requires c =
    subst (λ (n : Option NarrowedReceivers). IfSome n (λ n. HaveWholeFirsts (narrowed_receivers_view n)))
    (sym c.item_at-narrowed.ensures)
    (whole_at_position c.as_slice.result.now (narrowed_in c.args.found.now) (all_receivers c)
    c.requires.whole c.index.result.now)

pub loop-i-preserved : goal.loop-i-preserved
loop-i-preserved c =
    let config = config_view c.args.config.now in
    let asked = option_copied c.args.asked in
    let found = c.args.found.now in
    let rules : List AlertingRule = c.args.rules.now in
    let w = with_outcomes rules (rule_outcomes_view found) in
    let i = c.loop-i.i in
    let rule : AlertingRule = c.index-rules-i.result in
    let one : AlertingRule × List RuleOutcome = (
      rule,
      receiver_outcomes
          (rule_outcomes_shown rule (narrowed_of (narrowed_in found) c.index.result.now)),
    ) in
    let lines : List Line = rule_lines config asked one in
    let within : i < length found.of_rules.items = omega (arith, c.requires.each) in
    let at : slice_get w i ≡ Some one =
    slice_get-map with_receivers_of (with_rule_outcomes rules (rule_outcomes_view found)) i
    ∙ ap (option_map with_receivers_of) (found_at rules found i rule c.index.result.now
    (stands_at rules i rule c.loop-i-test.true c.index-rules-i.is)
    (stands_at found.of_rules.items i c.index.result.now within c.index.ensures)) in
    let more : map line_view c.push_rule_lines.new.lines.items ≡ map line_view c.loop-i.lines.items ++ lines =
    c.in_ok-push_rule_lines.ensures
    ∙ ap (λ os. map line_view c.loop-i.lines.items ++ rule_lines config asked (rule, os))
    (ap (λ o. outcomes_shown rule (option_map narrowed_receivers_view o)) c.item_at-narrowed.ensures
    ∙ shown_at_position c.as_slice.result.now (narrowed_in found)
    (all_receivers (goal.at.loop-i-preserved c).After-index-rules-i) rule c.index.result.now) in
    let count : length c.push_rule_lines.new.lines.items ≡ length c.loop-i.lines.items + length lines =
    sym (length-map c.push_rule_lines.new.lines.items line_view) ∙ ap length more
    ∙ length-append (map line_view c.loop-i.lines.items) lines
    ∙ ap (λ m. m + length lines) (length-map c.loop-i.lines.items line_view) in
    let has : AlertingRule × List RuleOutcome → Bool = λ rule. has_lines (rule_lines config asked rule) in
    let counted : count_by has (take (i + 1) w) ≡ count_by has (take i w) + cond (has_lines lines) 1 0 =
    counted_more has w i one at in
    let shown : (c.if-len-before.shown ≡ count_by has (take (i + 1) w)) × (c.if-len-before.shown ≤ i + 1) =
    elim c.if-len-before.branch [
      | then-len-before w' ↦
          let e : count_by has (take (i + 1) w) ≡ count_by has (take i w) + 1 =
          counted ∙ ap (λ b. count_by has (take i w) + cond b 1 0) (some_there lines (omega (arith, count))) in
          (omega arith, omega arith)
      | else-len-before w' ↦
          let e : count_by has (take (i + 1) w) ≡ count_by has (take i w) + 0 =
          counted ∙ ap (λ b. count_by has (take i w) + cond b 1 0) (none_there lines (omega (arith, count))) in
          (omega arith, omega arith)
    ] in
    record {
      lines = more ∙ ap (λ ls. ls ++ lines) c.loop-i.invariant.lines
          ∙ joined_more (rule_lines config asked) w i one at;
      shown = shown.0;
      few = shown.1;
    }

pub returns : goal.returns
returns c =
    let config = config_view c.args.config.now in
    let asked = option_copied c.args.asked in
    let found = c.args.found.now in
    let rules : List AlertingRule = c.args.rules.now in
    let w = with_outcomes rules (rule_outcomes_view found) in
    let long : length w ≡ length rules =
    length-map (with_rule_outcomes rules (rule_outcomes_view found)) with_receivers_of
    ∙ found_length rules found c.requires.each in
    let all = take_all c.loop-i.i w (omega (arith, long)) in
    let lines = c.loop-i.invariant.lines ∙ ap (flat_map (rule_lines config asked)) all in
    let shown = c.loop-i.invariant.shown
    ∙ ap (count_by (λ rule. has_lines (rule_lines config asked rule))) all in
    let last = c.in_ok-last.ensures ∙ (λ i. last_pieces asked (shown i) (sym long i)) in
    record { report = λ i. record { lines = lines i; last = last i } }
