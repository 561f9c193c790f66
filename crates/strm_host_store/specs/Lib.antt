pub mod HostStates
pub mod Calls
pub mod Feeding
pub mod Hosting
pub mod Lending
