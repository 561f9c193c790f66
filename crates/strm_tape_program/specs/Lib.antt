pub mod Texts
pub mod Modes
pub mod Reading
pub mod Taking
pub mod Playing
