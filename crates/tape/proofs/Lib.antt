pub mod FollowLemmas
pub mod OutcomeLemmas
pub mod NamingLemmas
