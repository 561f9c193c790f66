pub mod RegionLemmas
pub mod WriterPollLemmas
pub mod ReaderPollLemmas
pub mod WriterTurnLemmas
pub mod StepLemmas
