use Rattle.am_alerts.proofs.judge.judge_for.Goals as goal

pub returns-clause-sound : goal.returns-clause-sound
returns-clause-sound c = λ values last. c.of.ensures.sound values
