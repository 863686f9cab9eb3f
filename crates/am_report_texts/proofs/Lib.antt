pub mod PieceSteps
pub mod Escapes
pub mod LineLemmas
pub mod PlainData
