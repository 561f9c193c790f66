pub mod Conservation
pub mod Starts
pub mod Laws
