use Rattle.strm_transmit.proofs.StepLemmas.{end_is_name, slot_refused}
use Rattle.strm_transmit.proofs.store.Store.set_found.Goals as goal

pub refusal_of-requires : goal.refusal_of-requires
refusal_of-requires c = end_is_name c.in-Err.error c.in-Err.ensures.others

pub returns-in-Err-clause-exact : goal.returns-in-Err-clause-exact
returns-in-Err-clause-exact c =
    let r = c.refusal_of.ensures in
    slot_refused _ c.in-Err.error _ _ c.in-Err.ensures.answer c.in-Err.ensures.others (record { unknown = r.unknown; kind = r.kind; ty = r.ty })
