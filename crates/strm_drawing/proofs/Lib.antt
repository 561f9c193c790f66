pub mod RunLemmas
pub mod FoldLemmas
pub mod TextLemmas
pub mod MoveLemmas
pub mod ServeLemmas
