pub mod AgainLemmas
pub mod LivesLemmas
pub mod FoldLemmas
pub mod CalmLemmas
pub mod PlayLemmas
pub mod PeerLemmas
