-- Messages, and what is counted for them.
use Rattle.strm_guest_store.proofs.MessageLemmas.{messages_within}
use Rattle.strm_guest_store.proofs.limit_laws.messages_are_within_bytes.Goals as goal

pub returns : goal.returns
returns c state guest among = messages_within state guest among
