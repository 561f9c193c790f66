-- The end across is named by the handle that has it, since handles and ends agree.
use Rattle.strm_guest_store.proofs.AcrossLemmas.{across}
use Rattle.strm_guest_store.proofs.laws.across_is_told.Goals as goal

pub returns : goal.returns
returns c = λ state g handle to other end among told there. across state g handle to other end among.held told there
