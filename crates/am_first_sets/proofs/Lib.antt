pub mod CubeTruth
pub mod FirstPossible
pub mod CubeEnds
pub mod FirstLemmas
pub mod SolverLemmas
pub mod MeetingLemmas
pub mod ReasonLemmas
pub mod PairLemmas
