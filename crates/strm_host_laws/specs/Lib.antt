pub mod HostMoments
pub mod HostLaws
pub mod StreamEvents
pub mod Isolation
