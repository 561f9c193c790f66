use Rattle.strm_transmit.proofs.StepLemmas.{name_refused}
use Rattle.strm_transmit.proofs.store.Store.handle_found.Goals as goal

pub returns-in-Err-clause-exact : goal.returns-in-Err-clause-exact
returns-in-Err-clause-exact c =
    let r = c.refusal_of.ensures in
    name_refused _ c.in-Err.error _ _ c.in-Err.ensures.exact c.in-Err.ensures.others (record { unknown = r.unknown; kind = r.kind; ty = r.ty })
