-- The outcomes are those of every alert, and the comparison is of their changes.
use Rattle.std.proofs.Common.{sym, string_bytes}
use Rattle.am_config.specs.ConfigView.{whole_config_view}
use Rattle.am_every_alert.specs.Deciding.{space_of}
use Rattle.am_reports.proofs.Compared.{compared}
use Rattle.am_reports.proofs.comparing.comparison_of_all.Goals as goal

pub shown_changes-requires : goal.shown_changes-requires
shown_changes-requires c = (
  space_of c.args.space.now.impossible c.all_outcomes.new.space.labels,
  sym c.universe.ensures.labels,
  c.in_ok-outcomes.ensures.are.order,
)

pub returns-in-Ok-compared_text-clause-compares : goal.returns-in-Ok-compared_text-clause-compares
returns-in-Ok-compared_text-clause-compares c =
    let shown = rw c.universe.ensures.labels at c.in-Ok.ensures.changes in
    let told = c.in-Ok-compared_text.ensures in
    compared c.args.alphabet c.args.space.now (whole_config_view c.args.old.now)
    (whole_config_view c.args.new.now) c.all_outcomes.new.space.labels c.in_ok-outcomes.outcomes
    c.in_ok-outcomes.ensures.are c.requires.old_apart c.requires.new_apart
    c.args.form c.in-Ok-compared_text.compared.changes
    (string_bytes c.in-Ok-compared_text.compared.text)
    (rw (c.as_slice.ensures.value, shown) at told.changes)
    (rw (c.as_slice.ensures.value, shown) at told.text)
