use Rattle.strm_error_contexts.proofs.KeptLemmas.{kept-none, kept-inserted, kept-dropped}
use Rattle.strm_error_contexts.proofs.laws.contexts_stay_kept.Goals as goal

pub returns-clause-none : goal.returns-clause-none
returns-clause-none c = kept-none

pub returns-clause-inserted : goal.returns-clause-inserted
returns-clause-inserted c = λ contexts message kept. kept-inserted contexts kept message

pub returns-clause-dropped : goal.returns-clause-dropped
returns-clause-dropped c = kept-dropped
