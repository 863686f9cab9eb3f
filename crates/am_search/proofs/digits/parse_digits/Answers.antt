use Rattle.std.proofs.Common.{arith, rules}
use Rattle.std.proofs.lemmas.Grind.{common_steps}
use Rattle.am_search.proofs.TokenForms.{no_digits, other_digits, is_fingerprint}
use Rattle.am_search.proofs.digits.parse_digits.Goals as goal

pub returns-in_err-fingerprint : goal.returns-in_err-fingerprint
returns-in_err-fingerprint c = grind (arith, common_steps, no_digits)

pub returns-else-eq : goal.returns-else-eq
returns-else-eq c = λ h is e. search (rules, other_digits)

pub returns-then-eq : goal.returns-then-eq
returns-then-eq c = search (rules, is_fingerprint)
