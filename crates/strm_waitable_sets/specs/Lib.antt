pub mod Homes
pub mod Ready
pub mod Sets
pub mod Slots
