pub mod Renaming
pub mod Runs
pub mod Lives
pub mod Isolation
pub mod Shares
