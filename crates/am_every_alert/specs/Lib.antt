pub mod EveryAlert
pub mod Deciding
pub mod CompleteExample
