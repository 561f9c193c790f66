pub mod LoneLemmas
pub mod KeptLemmas
pub mod HeldLemmas
