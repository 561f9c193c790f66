pub mod Taking
pub mod Marks
pub mod Playing
pub mod Differing
pub mod Errors
