use Rattle.strm_session.proofs.AmongLemmas.{goes_on_itself, goes_on_same}
use Rattle.strm_session.proofs.serving.answer_words.Goals as goal

pub returns-in-None-clause-goes_on : goal.returns-in-None-clause-goes_on
returns-in-None-clause-goes_on g c = goes_on_itself _

pub returns-in-Some-Generate-clause-goes_on : goal.returns-in-Some-Generate-clause-goes_on
returns-in-Some-Generate-clause-goes_on g c = goes_on_same _ _ c.answer_numbers.ensures.hosts
