use Rattle.am_unseen.proofs.UnseenMatchers.{similar_is_nearest, none_is_similar}
use Rattle.am_unseen.proofs.laws.the_most_similar_value_is_the_nearest.Goals as goal

pub returns : goal.returns
returns c = record { nearest = similar_is_nearest; none = none_is_similar }
