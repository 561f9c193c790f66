pub mod HomeLemmas
pub mod TieLemmas
pub mod SetLemmas
pub mod ReadyLemmas
