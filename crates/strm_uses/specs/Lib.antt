pub mod Places
pub mod Polled
pub mod Produced
pub mod Across
