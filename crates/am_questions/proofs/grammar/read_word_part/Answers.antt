use Rattle.std.proofs.Common.{◌≡◌, sym, ◌∙◌}
use Rattle.std.proofs.lemmas.Slice.Eq.{bytes_eq-Decides}
use Rattle.am_questions.specs.Grammar.{property, receiver, route, word_of, ReceiverWord}
use Rattle.am_questions.specs.GrammarReading.{part_at_front}
use Rattle.am_questions.proofs.grammar.read_word_part.Goals as goal

pub returns-in-Some-clause-taken : goal.returns-in-Some-clause-taken
returns-in-Some-clause-taken c = rw c.in-Some.ensures.found (part_at_front (property _))

pub returns-in_ok-path_of-in-Some-reach_of-clause-taken :
    goal.returns-in_ok-path_of-in-Some-reach_of-clause-taken
returns-in_ok-path_of-in-Some-reach_of-clause-taken c =
    let path = c.in_ok-path_of-in-Some-reach_of.ensures.taken in
    rw (
      c.in-Some-reach_of.ensures.found,
      c.in_ok-first.ensures.cases.0,
      path.0,
      ← path.1.1,
    ) (part_at_front (route _ path.1.0))

pub returns-in_ok-name_of-in-None-clause-taken : goal.returns-in_ok-name_of-in-None-clause-taken
returns-in_ok-name_of-in-None-clause-taken c =
    let word : c.args.word.now ≡ word_of ReceiverWord =
    (bytes_eq-Decides _ _).0 (sym c.eq.ensures ∙ c.if-eq.true) in
    rw (word, c.in_ok-first.ensures.cases.0)
    (part_at_front (receiver _ _ (sym c.in_ok-name_of-in-None.ensures)))
