pub mod AlikeLemmas
pub mod TurnLemmas
pub mod StepLemmas
