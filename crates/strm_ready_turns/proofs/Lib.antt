pub mod WriterLemmas
pub mod ReaderLemmas
pub mod PipeLemmas
