pub mod HandleLemmas
pub mod ChainLemmas
pub mod ChangeLemmas
pub mod LookupLemmas
pub mod LiveLemmas
pub mod KindLemmas
