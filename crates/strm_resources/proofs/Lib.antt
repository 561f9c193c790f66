pub mod NodeLemmas
pub mod SlotLemmas
pub mod LinkLemmas
pub mod NumberLemmas
pub mod TableLemmas
pub mod EntryLemmas
