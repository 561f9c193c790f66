pub mod AnswerLemmas
pub mod ErasedLemmas
pub mod DirectLemmas
pub mod FutureLemmas
pub mod ListLemmas
pub mod SourceLemmas
pub mod ConsumerLemmas
pub mod OfferingLemmas
