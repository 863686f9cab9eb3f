use Rattle.std.proofs.Common.{[], ◌∷◌}
use Rattle.am_eval.specs.declared.property.Property.TheVariants.{Any}
use Rattle.am_questions.specs.declared.grammar.Connective.TheVariants as by
use Rattle.am_questions.specs.Grammar.{IsOf, Single, JoinedBy, joined, alone, joined_on}
use Rattle.am_questions.specs.Grammar.{negated, part, property, keyword, JoinWord}
use Rattle.am_questions.specs.GrammarExamples.{any_word, any_tree}
use Rattle.am_questions.proofs.laws.joins_to_the_left.Goals as goal

any_single : IsOf Single (any_word ∷ []) any_tree
any_single = part (property Any)

any_conjunction : IsOf (JoinedBy by.And) (any_word ∷ []) any_tree
any_conjunction = alone any_single

two_conjunction : IsOf (JoinedBy by.And) (any_word ∷ keyword (JoinWord by.And) ∷ any_word ∷ [])
    (joined by.And any_tree any_tree)
two_conjunction = joined_on any_conjunction any_single

pub returns : goal.returns
returns c = record {
  or = joined_on (joined_on (alone any_conjunction) any_conjunction) any_conjunction;
  and = alone (joined_on two_conjunction any_single);
  and_in_or = joined_on (alone two_conjunction) two_conjunction;
  not_in_and = alone (joined_on (alone (negated any_single)) any_single);
}
