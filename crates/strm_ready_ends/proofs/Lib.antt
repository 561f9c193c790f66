pub mod QueueLemmas
pub mod WholeLemmas
pub mod OrderLemmas
pub mod RuleLemmas
pub mod RoomLemmas
pub mod PollLemmas
