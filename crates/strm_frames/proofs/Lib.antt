pub mod FrontLemmas
pub mod ReadingLemmas
pub mod TakingLemmas
pub mod LaneLemmas
pub mod CompletingLemmas
pub mod DemuxLemmas
pub mod BothLemmas
pub mod MuxLemmas
