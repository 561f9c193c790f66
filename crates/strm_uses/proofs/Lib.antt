pub mod TransmitLemmas
pub mod BufferLemmas
pub mod LaneFacts
pub mod RunFacts
pub mod TapeFacts
