pub mod StepLemmas
pub mod OutOfMemoryLemmas
pub mod HostStepLemmas
pub mod ApplyLemmas
pub mod ServedLemmas
pub mod KeptLemmas
pub mod FitsLemmas
pub mod StillLemmas
pub mod ForsakeLemmas
pub mod ToldLemmas
pub mod ReadyGuestLemmas
pub mod HeldStoreLemmas
pub mod PlaceLemmas
pub mod StoreLemmas
-- a stream made between two guests
pub mod MakingLemmas
-- a stream made in the place of one that is gone
pub mod AgainLemmas
pub mod LendingLemmas
pub mod OperationLemmas
pub mod DropLemmas
pub mod EndingLemmas
pub mod MoveLemmas
pub mod SceneLemmas
pub mod ReaderTurnLemmas
pub mod SceneStoreLemmas
pub mod WriterTurnLemmas
pub mod DriveStoreLemmas
pub mod HostingLemmas
pub mod PipeStoreLemmas
-- what a fetch and an offer of a pipe keep
pub mod PipeKeptLemmas
pub mod RoundLemmas
pub mod RoundStoreLemmas
pub mod OperateLemmas
-- a read or write that stops at an item that is none
pub mod BadItemLemmas
pub mod SetLemmas
pub mod ContextLemmas
pub mod NextLemmas
pub mod EngineLemmas
pub mod GuestLemmas
-- an operation is of the guest that has its end
pub mod OwnerLemmas
-- what a guest is asked of its handles
pub mod QueryLemmas
pub mod ReleaseLemmas
-- guests that end and begin
pub mod GivenUpLemmas
pub mod LivesLemmas
