pub mod HostEnds
