use Rattle.am_first_sets.proofs.ReasonLemmas.{renamed_is_set}
use Rattle.am_first_sets.proofs.reason.set_named.Goals as goal

pub returns : goal.returns
returns c =
    renamed_is_set c.args.i c.args.named c.args.candidates.now c.index-candidates-i.result
    c.requires
