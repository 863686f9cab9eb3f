use Rattle.std.proofs.Common.{[]}
use Rattle.am_eval.proofs.FlatEnds.{ends_exactly}
use Rattle.am_eval.proofs.laws.a_route_handles_what_no_child_matches.Goals as goal

pub returns : goal.returns
returns _ = record { exactly = λ s t. ends_exactly s t [] }
