pub mod ReadyTurns
