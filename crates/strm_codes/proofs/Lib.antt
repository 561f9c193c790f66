pub mod LayoutLemmas
pub mod PaddedLemmas
pub mod ItemLemmas
pub mod SamenessLemmas
pub mod FormLemmas
pub mod ResultLemmas
mod ValueLemmas
pub mod SpellingLemmas
pub mod MeasureLemmas
pub mod CompoundLemmas
pub mod BeginLemmas
pub mod FitLemmas
pub mod FieldTypeLemmas
pub mod CompoundTestLemmas
pub mod NodeByteLemmas
