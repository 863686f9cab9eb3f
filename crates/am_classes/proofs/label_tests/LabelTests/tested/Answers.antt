use Rattle.std.proofs.Common.{map, ap, ◌∙◌}
use Rattle.am_scan.specs.Automaton.{pattern_of}
use Rattle.am_classes.specs.AskedPatterns.{patterns_asked}
use Rattle.am_classes.specs.State.{patterns_of}
use Rattle.am_classes.proofs.AutomataLemmas.{automata_for}
use Rattle.am_classes.proofs.label_tests.LabelTests.tested.Goals as goal

pub tested_with-requires-clause-fit : goal.tested_with-requires-clause-fit
tested_with-requires-clause-fit c =
    automata_for c.args.self.now.patterns.keys c.as_slice-automata.result.now
    (ap (map pattern_of) c.as_slice-automata.ensures.value ∙ ap (λ v. v.1.1) c.questions-questions.ensures
    ∙ c.args.self.now.fit c.in-Found.found.1.1 (ap patterns_asked c.in-Found.is))

pub tested_with-requires-in-Questions-clause-fit : goal.tested_with-requires-in-Questions-clause-fit
tested_with-requires-in-Questions-clause-fit c =
    automata_for c.args.self.now.patterns.keys c.as_slice-automata-in-Questions.result.now
    (ap (map pattern_of) c.as_slice-automata-in-Questions.ensures.value
    ∙ c.args.self.now.fit (patterns_of c.in-Questions.questions) (ap patterns_asked c.in-Questions.is))
