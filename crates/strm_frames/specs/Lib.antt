pub mod Frames
pub mod Streams
pub mod Demuxes
pub mod Fronts
pub mod Taking
pub mod Muxes
