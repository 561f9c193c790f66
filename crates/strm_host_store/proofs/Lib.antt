pub mod ReadyLemmas
pub mod FitLemmas
pub mod StopLemmas
pub mod HostingLemmas
pub mod LoopLemmas
pub mod CallLemmas
pub mod TurnLemmas
