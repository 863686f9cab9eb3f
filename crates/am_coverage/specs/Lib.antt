pub mod Coverage
pub mod FirstEnds
pub mod CoverageView
pub mod WrittenCoverage
pub mod Report
