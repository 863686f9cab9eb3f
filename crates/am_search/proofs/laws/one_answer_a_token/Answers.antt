use Rattle.am_search.proofs.TokenForms.{not_refused, one_cause}
use Rattle.am_search.proofs.laws.one_answer_a_token.Goals as goal

pub returns : goal.returns
returns c = record { not_refused = not_refused; one_cause = one_cause }
