use Rattle.am_classes.proofs.StateLemmas.{found_of_live}
use Rattle.am_classes.proofs.questions.Questions.found.Goals as goal

pub returns : goal.returns
returns c = found_of_live c.args.self.now c.args.state.now _ _ c.found_patterns.result c.as_slice.ensures.value c.as_slice-2.ensures.value c.found_patterns.ensures
