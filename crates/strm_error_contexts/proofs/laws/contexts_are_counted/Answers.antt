use Rattle.strm_error_contexts.proofs.KeptLemmas.{len-inserted}
use Rattle.strm_error_contexts.proofs.laws.contexts_are_counted.Goals as goal

pub returns-clause-inserted : goal.returns-clause-inserted
returns-clause-inserted c = λ contexts message kept. len-inserted contexts kept message
