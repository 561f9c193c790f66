pub mod LineLemmas
pub mod TextLemmas
pub mod MuxServingLemmas
pub mod ScriptLemmas
pub mod HearingLemmas
pub mod CarryLemmas
