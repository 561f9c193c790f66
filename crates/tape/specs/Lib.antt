pub mod HostEnds
pub mod Outcomes
