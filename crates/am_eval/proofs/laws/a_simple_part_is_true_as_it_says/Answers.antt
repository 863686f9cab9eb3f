use Rattle.am_eval.proofs.SimpleParts.{braces_hold}
use Rattle.am_eval.proofs.laws.a_simple_part_is_true_as_it_says.Goals as goal

pub returns-clause-braces : goal.returns-clause-braces
returns-clause-braces _ = braces_hold
