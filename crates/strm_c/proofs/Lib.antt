pub mod Values
pub mod HandleValues
pub mod BytesValues
pub mod PayloadLemmas
pub mod WordLemmas
pub mod MakingLemmas
-- a read or write, as C gets it
pub mod OperateLemmas
