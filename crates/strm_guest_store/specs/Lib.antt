pub mod Among
pub mod Lending
pub mod Operations
pub mod Limits
pub mod Limited
pub mod Ends
pub mod Ready
pub mod OwnStreams
