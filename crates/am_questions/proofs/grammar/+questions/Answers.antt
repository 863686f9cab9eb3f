use Rattle.std.proofs.Common.{refl}
use Rattle.std.proofs.lemmas.Result.{err_from_is_err_and}
use Rattle.am_questions.proofs.Fronts.{all_read, refused_for, first_missing}
use Rattle.am_questions.proofs.Fronts.{next_missing, not_missing, inside_missing, close_missing}
use Rattle.am_questions.proofs.Fronts.{not_read, inside_read, part_read}
use Rattle.am_questions.proofs.TreeSeen.{view_part, view_not}
use Rattle.am_questions.proofs.grammar.+questions.Goals as goal

-- ---- read_joined

pub read_joined-returns-in_err-tree-clause-refused :
    goal.read_joined-returns-in_err-tree-clause-refused
read_joined-returns-in_err-tree-clause-refused t c =
    let p = err_from_is_err_and c.from_residual.result c.from_residual.ensures.1 in
    rw (p.1, p.2) (refused_for first_missing c.in_err-tree.ensures.refused)

pub read_joined-returns-in_err-right-clause-refused :
    goal.read_joined-returns-in_err-right-clause-refused
read_joined-returns-in_err-right-clause-refused t c =
    let p = err_from_is_err_and c.from_residual-in_err-right.result
    c.from_residual-in_err-right.ensures.1 in
    let first = rw c.connective_word.ensures at c.in-Some.ensures.behind in
    rw (p.1, p.2) (refused_for (next_missing first c.loop-behind.invariant.so_far)
    c.in_err-right.ensures.refused)

pub read_joined-returns-clause-taken : goal.read_joined-returns-clause-taken
read_joined-returns-clause-taken t c =
    all_read c.loop-behind.invariant.so_far
    (rw c.connective_word.ensures at c.in_default.ensures.other)

-- ---- read_operand

pub read_operand-returns-in-And-clause-refused : goal.read_operand-returns-in-And-clause-refused
read_operand-returns-in-And-clause-refused t c = rw c.in-And.is c.read_single.ensures.refused

pub read_operand-returns-in-Or-clause-refused : goal.read_operand-returns-in-Or-clause-refused
read_operand-returns-in-Or-clause-refused t c = rw c.in-Or.is c.read_joined.ensures.refused

-- ---- read_single

pub read_single-returns-in_err-tree-clause-refused :
    goal.read_single-returns-in_err-tree-clause-refused
read_single-returns-in_err-tree-clause-refused t c =
    let p = err_from_is_err_and c.from_residual.result c.from_residual.ensures.1 in
    rw (p.1, p.2) (refused_for (not_missing c.in-Some.ensures.behind) c.in_err-tree.ensures.refused)

pub read_single-returns-in-Some-clause-taken : goal.read_single-returns-in-Some-clause-taken
read_single-returns-in-Some-clause-taken t c =
    rw (view_not c.in_ok-tree.tree c.in_ok-new.field-0 c.in_ok-new.ensures.ok)
    (not_read c.in-Some.ensures.behind c.in_ok-tree.ensures.taken)

pub read_single-returns-in_err-tree-in-Some-behind_lexeme-clause-refused :
    goal.read_single-returns-in_err-tree-in-Some-behind_lexeme-clause-refused
read_single-returns-in_err-tree-in-Some-behind_lexeme-clause-refused t c =
    let p = err_from_is_err_and c.from_residual-in_err-tree-in-Some-behind_lexeme.result
    c.from_residual-in_err-tree-in-Some-behind_lexeme.ensures.1 in
    rw (p.1, p.2) (refused_for (inside_missing c.in-Some-behind_lexeme.ensures.behind)
    c.in_err-tree-in-Some-behind_lexeme.ensures.refused)

pub read_single-returns-in-Some-behind_lexeme-2-clause-taken :
    goal.read_single-returns-in-Some-behind_lexeme-2-clause-taken
read_single-returns-in-Some-behind_lexeme-2-clause-taken t c =
    inside_read c.in-Some-behind_lexeme.ensures.behind
    c.in_ok-tree-in-Some-behind_lexeme.ensures.taken c.in-Some-behind_lexeme-2.ensures.behind

pub read_single-returns-in-Some-behind_lexeme-clause-refused :
    goal.read_single-returns-in-Some-behind_lexeme-clause-refused
read_single-returns-in-Some-behind_lexeme-clause-refused t c = λ _. (
  refl,
  close_missing c.in-Some-behind_lexeme.ensures.behind
      c.in_ok-tree-in-Some-behind_lexeme.ensures.taken c.in-None-behind_lexeme.ensures.other,
)

pub read_single-returns-in-Some-read_part-clause-taken :
    goal.read_single-returns-in-Some-read_part-clause-taken
read_single-returns-in-Some-read_part-clause-taken t c =
    rw (view_part c.in-Some-read_part.part) (part_read c.in-Some-read_part.ensures.taken)
