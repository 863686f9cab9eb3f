-- What a tree means, and the first of its parts that is refused.
use Rattle.std.proofs.lemmas.Result.{err_from_is_err_and}
use Rattle.am_questions.proofs.PartLemmas.{parts_meant, alone_if_refused, left_refused, right_refused}
use Rattle.am_questions.proofs.TreeSeen.{part_seen, joined_parts}
use Rattle.am_questions.proofs.names.+question_of.Goals as goal
use Rattle.std.proofs.lemmas.Grind.{common_steps}
use Rattle.std.proofs.Common.{arith}

pub returns-in-Part-clause-refused : goal.returns-in-Part-clause-refused
returns-in-Part-clause-refused t c = grind (arith, common_steps, part_seen, alone_if_refused)

pub returns-in_err-left-in-Joined-clause-refused : goal.returns-in_err-left-in-Joined-clause-refused
returns-in_err-left-in-Joined-clause-refused t c =
    let p = err_from_is_err_and c.from_residual-in_err-left-in-Joined.result c.from_residual-in_err-left-in-Joined.ensures.1 in
    let parts = joined_parts c.args.tree.now c.in-Joined.connective c.in-Joined.left c.in-Joined.right c.in-Joined.is in
    grind (arith, common_steps, left_refused)

pub returns-in_err-right-in-Joined-clause-refused : goal.returns-in_err-right-in-Joined-clause-refused
returns-in_err-right-in-Joined-clause-refused t c =
    let p = err_from_is_err_and c.from_residual-in_err-right-in-Joined.result c.from_residual-in_err-right-in-Joined.ensures.1 in
    let parts = joined_parts c.args.tree.now c.in-Joined.connective c.in-Joined.left c.in-Joined.right c.in-Joined.is in
    grind (arith, common_steps, right_refused, parts_meant)
