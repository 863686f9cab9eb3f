pub mod FirstFound
pub mod CoverageLaws
pub mod PathLaws
pub mod ReportFacts
pub mod EarliestFound
pub mod FirstEndLaws
pub mod SeenEnds
