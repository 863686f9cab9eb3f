use Rattle.std.proofs.Common.{◌<◌, ◌*◌, ◌+◌, ℕ, length, map}
use Rattle.am_questions.specs.declared.grammar.Connective.{Connective}
use Rattle.am_questions.specs.declared.grammar.Connective.TheVariants as by
use Rattle.am_questions.specs.LexemeView.{lexeme_view}
use Rattle.am_questions.specs.TreeView.{tree_view}
use Rattle.am_questions.proofs.Fronts.{SoFar}
use Rattle.am_questions.proofs.grammar.+questions.Given as goal

-- Each call goes down one tier of the grammar, or some lexeme was read before it.
abbrev pub tiers_down : Connective → ℕ
tiers_down by.And = 0
tiers_down by.Or = 2

abbrev pub decreases-read_joined : goal.decreases-read_joined
decreases-read_joined l = 5 * length l.lexemes.now + tiers_down l.connective + 2

abbrev pub decreases-read_operand : goal.decreases-read_operand
decreases-read_operand l = 5 * length l.lexemes.now + tiers_down l.connective + 1

abbrev pub decreases-read_single : goal.decreases-read_single
decreases-read_single l = 5 * length l.lexemes.now

abbrev pub invariant-read_joined-loop-behind : goal.invariant-read_joined-loop-behind
invariant-read_joined-loop-behind l = record {
  shorter : length l.rest < length l.fn.lexemes;
  so_far : SoFar l.fn.connective (map lexeme_view l.fn.lexemes) (tree_view l.tree)
      (map lexeme_view l.rest);
}

abbrev pub decreases-read_joined-loop-behind : goal.decreases-read_joined-loop-behind
decreases-read_joined-loop-behind l = length l.rest
