pub mod RenamedTables
pub mod RenamedStreams
pub mod RenamedStates
pub mod RenamedRefusals
pub mod RenamedActs
pub mod RenamedSteps
pub mod RenamedRuns
pub mod LifeSteps
pub mod AmongGuests
pub mod Accounts
pub mod IsolatedSteps
pub mod IsolatedLives
pub mod ShareLemmas
mod LifeRows
