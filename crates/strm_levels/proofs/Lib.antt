pub mod MarkLemmas
pub mod LevelLemmas
