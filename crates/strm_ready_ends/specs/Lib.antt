pub mod Wholes
pub mod Waiting
pub mod Records
pub mod SendQueues
pub mod ReceiveQueues
pub mod Runs
