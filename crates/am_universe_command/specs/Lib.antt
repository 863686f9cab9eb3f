pub mod UniverseInputs
pub mod UniverseText
pub mod CheckLines
pub mod Universes
