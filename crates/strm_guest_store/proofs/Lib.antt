pub mod CountLemmas
-- an operation is of the guest that has its end, and what traps a store
pub mod OwnerLemmas
-- what tables hold
pub mod TableGains
pub mod MadeLemmas
pub mod AmongLemmas
pub mod AgainLemmas
pub mod BaseLemmas
-- reads and writes, and items that are none
pub mod OperateLemmas
pub mod GainLemmas
-- limits that are none
pub mod LimitLemmas
pub mod MessageLemmas
-- who is made ready, and which guests are ready
pub mod OwnStreamLemmas
pub mod OwnReadyLemmas
pub mod ReadyLemmas
pub mod AcrossLemmas
-- guests that end and begin
pub mod LivesLemmas
