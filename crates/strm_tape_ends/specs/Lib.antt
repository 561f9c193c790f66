pub mod Replays
pub mod ReaderPlans
