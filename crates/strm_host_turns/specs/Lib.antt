pub mod Regions
pub mod WriterPolls
pub mod ReaderPolls
pub mod WriterTurns
pub mod ReaderTurns
pub mod Piping
