pub mod PortLemmas
pub mod WordLemmas
pub mod ServingLemmas
