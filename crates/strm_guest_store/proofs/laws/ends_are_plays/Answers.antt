-- Nothing refuses a cancel or a drop of what a guest has, where it owes no value.
use Rattle.strm_guest_store.proofs.LivesLemmas.{ends_played}
use Rattle.strm_guest_store.proofs.laws.ends_are_plays.Goals as goal

pub returns : goal.returns
returns c = ends_played
