use Rattle.strm_guest_store.proofs.CountLemmas.{never_full}
use Rattle.strm_guest_store.proofs.laws.makings_go_on.Goals as goal

pub returns : goal.returns
returns c = λ state among small. never_full state among.few small
