pub mod GuestLemmas
pub mod BetweenLemmas
pub mod CarryingLemmas
pub mod EndLemmas
pub mod OwnerLemmas
pub mod SetLemmas
pub mod ContextLemmas
pub mod EndingLemmas
