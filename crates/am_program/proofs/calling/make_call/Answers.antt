-- What a command owes is what is owed for its request.
use Rattle.am_program.proofs.Owed.{nothing_found, so_many_found}
use Rattle.am_program.proofs.calling.make_call.Goals as goal

pub returns-in-Lint : goal.returns-in-Lint
returns-in-Lint g c = record {
  kept = rw c.in-Lint.is (rw c.world_inputs-inputs.ensures at c.lint.ensures.kept);
}

pub returns-in-Where : goal.returns-in-Where
returns-in-Where g c = record {
  kept = rw c.in-Where.is (nothing_found c.nothing_found.ensures
      (rw (c.as_slice.ensures.value, c.world_inputs-inputs-in-Where.ensures)
      at c.where_alerts_go.ensures.kept));
}

pub returns-in-Routes : goal.returns-in-Routes
returns-in-Routes g c = record {
  kept = rw c.in-Routes.is (nothing_found c.nothing_found-in-Routes.ensures
      (rw (c.as_slice-in-Routes.ensures.value, c.report_inputs-inputs.ensures)
      at c.routes.ensures.kept));
}

pub returns-in-Compare : goal.returns-in-Compare
returns-in-Compare g c = record {
  kept = rw c.in-Compare.is (so_many_found c.something_found.ensures
      (rw (c.alphabet_of.ensures, c.form_of-form.ensures, c.as_deref.ensures.value)
      at (rw (c.as_deref-given.ensures.value, c.bytes_of.ensures, c.bytes_of-in-Compare.ensures)
      at c.compare.ensures.kept)));
}

pub returns-in-Outcomes : goal.returns-in-Outcomes
returns-in-Outcomes g c = record {
  kept = rw c.in-Outcomes.is (nothing_found c.nothing_found-in-Outcomes.ensures
      (rw c.report_inputs-inputs-in-Outcomes.ensures at c.outcomes.ensures.kept));
}

pub returns-in-Ask : goal.returns-in-Ask
returns-in-Ask g c = record {
  kept = rw c.in-Ask.is (nothing_found c.nothing_found-in-Ask.ensures
      (rw c.steps_of.ensures.steps
      at (rw (c.bytes_of-universe.ensures, c.files_of.ensures, c.limit_of.ensures.limit)
      at c.ask.ensures.kept)));
}

pub returns-in-Dead : goal.returns-in-Dead
returns-in-Dead g c = record {
  kept = rw c.in-Dead.is (nothing_found c.nothing_found-in-Dead.ensures
      (rw (c.bytes_of-in-Dead.ensures, c.config.ensures.bytes, c.files_of.ensures)
      at c.dead.ensures.kept));
}

pub returns-in-Receivers : goal.returns-in-Receivers
returns-in-Receivers g c = record {
  kept = rw c.in-Receivers.is (nothing_found c.nothing_found-in-Receivers.ensures
      (rw (c.bytes_of-in-Receivers.ensures, c.config-in-Receivers.ensures.bytes, c.files_of.ensures)
      at c.receivers.ensures.kept));
}

pub returns-in-Explain : goal.returns-in-Explain
returns-in-Explain g c = record {
  kept = rw c.in-Explain.is (nothing_found c.nothing_found-in-Explain.ensures
      (rw (c.files_of.ensures, c.as_slice-in-Explain.ensures.value) at c.explain_words.ensures.kept));
}

pub returns-in-Alerts : goal.returns-in-Alerts
returns-in-Alerts g c = record {
  kept = rw c.in-Alerts.is (nothing_found c.nothing_found-in-Alerts.ensures
      (rw (c.files_of.ensures, c.form_of-form.ensures) at c.alerts.ensures.kept));
}

pub returns-in-Universe : goal.returns-in-Universe
returns-in-Universe g c = record {
  kept = rw c.in-Universe.is (nothing_found c.nothing_found-in-Universe.ensures
      (rw c.alphabet_of-in-Universe.ensures
      at (rw (c.as_deref-given.ensures.value, c.files_of.ensures, c.as_slice-in-Universe.ensures.value)
      at c.universe.ensures.kept)));
}

pub returns-in-CheckUniverse : goal.returns-in-CheckUniverse
returns-in-CheckUniverse g c = record {
  kept = rw c.in-CheckUniverse.is (nothing_found c.nothing_found-in-CheckUniverse.ensures
      (rw (c.as_slice-in-CheckUniverse.ensures.value, c.alphabet_of-in-CheckUniverse.ensures)
      at (rw (c.as_deref-given.ensures.value, c.files_of.ensures)
      at c.check_universe.ensures.kept)));
}
