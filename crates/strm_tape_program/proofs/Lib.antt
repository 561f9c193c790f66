pub mod ModeLemmas
pub mod ReadLemmas
pub mod WriteLemmas
pub mod TakeLemmas
pub mod PlayLemmas
