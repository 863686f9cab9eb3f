use Rattle.std.proofs.Common.{◌&&◌, false, get_or}
use Rattle.std.specs.Int.Bits.{and_lt}
use Rattle.am_judged_lists.specs.declared.mask.TheConstants.{WORD}
use Rattle.am_judged_lists.proofs.WordLemmas.{in_part, both_there, none_more, some_there}
use Rattle.am_judged_lists.proofs.mask.Mask.any_in.Goals as goal

pub loop-i-preserved : goal.loop-i-preserved
loop-i-preserved c =
    none_more (λ j. get_or c.args.self.now j false && in_part c.args.part c.args.other.now j) c.loop-i.i _ c.loop-i.invariant
    (both_there c.args.part c.args.other.now c.loop-i.i c.word-in-loop-i.result c.of_word.result c.word-in-loop-i.ensures
    c.of_word.ensures c.args.self.now c.word.result c.word.ensures)
    c.if-word-of_word-ne0.false

pub returns-then-word-of_word-ne0-clause-some : goal.returns-then-word-of_word-ne0-clause-some
returns-then-word-of_word-ne0-clause-some c = λ _.
    some_there (λ j. get_or c.args.self.now j false && in_part c.args.part c.args.other.now j) c.loop-i.i _
    (and_lt WORD c.word.result c.of_word.result c.word.type_inv c.of_word.type_inv)
    (both_there c.args.part c.args.other.now c.loop-i.i c.word-in-loop-i.result c.of_word.result c.word-in-loop-i.ensures
    c.of_word.ensures c.args.self.now c.word.result c.word.ensures)
    c.if-word-of_word-ne0.true
