use Rattle.std.proofs.lemmas.Result.{IfOk-weaker}
use Rattle.am_classes.proofs.CandidateLemmas.{tied_if_some}
use Rattle.am_classes.proofs.candidates.candidates.Goals as goal

pub returns-clause-tied : goal.returns-clause-tied
returns-clause-tied c =
    IfOk-weaker c.explored.result _ _ (tied_if_some c.args.questions.now) c.explored.ensures.shortest
