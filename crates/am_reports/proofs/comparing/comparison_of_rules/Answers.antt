-- The outcomes are those of each rule, and the comparison is of their changes.
use Rattle.std.proofs.Common.{string_bytes}
use Rattle.am_config.specs.ConfigView.{whole_config_view}
use Rattle.am_outcomes.specs.Configurations.{Pair}
use Rattle.am_rule_outcomes.specs.NarrowingView.{rule_outcomes_view}
use Rattle.am_reports.proofs.Compared.{compared_by_rules}
use Rattle.am_reports.proofs.RulesOutcomes.{all_are, as_long, rules_first}
use Rattle.am_reports.proofs.comparing.comparison_of_rules.Goals as goal

pub returns-in-Ok-compared_text-clause-compares : goal.returns-in-Ok-compared_text-clause-compares
returns-in-Ok-compared_text-clause-compares c =
    let a = c.args.alphabet in
    let s = c.args.space.now in
    let old = whole_config_view c.args.old.now in
    let new = whole_config_view c.args.new.now in
    let rules = c.args.rules.now in
    let found = rule_outcomes_view c.in_ok-found.found in
    let over = c.in_ok-found.ensures.found in
    let told = c.in-Ok-compared_text.ensures in
    compared_by_rules a s old new rules found
    (rules_first rules found (as_long a s.impossible (Pair old.config new.config) rules found over))
    (all_are a s (Pair old.config new.config) rules found over c.requires.names c.requires.texts)
    c.requires.old_apart c.requires.new_apart c.args.form
    c.in-Ok-compared_text.compared.changes
    (string_bytes c.in-Ok-compared_text.compared.text)
    (rw (c.as_slice.ensures.value, c.in-Ok.ensures.changes) at told.changes)
    (rw (c.as_slice.ensures.value, c.in-Ok.ensures.changes) at told.text) over
