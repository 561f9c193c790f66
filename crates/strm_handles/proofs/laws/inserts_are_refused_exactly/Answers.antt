use Rattle.strm_handles.proofs.ChangeLemmas.{overflow_exactly, limit_exactly}
use Rattle.strm_handles.proofs.laws.inserts_are_refused_exactly.Goals as goal

pub returns : goal.returns
returns c = record {
  overflow = λ old new before after e result i. overflow_exactly i;
  limit = λ old new before after e result i. limit_exactly i;
}
