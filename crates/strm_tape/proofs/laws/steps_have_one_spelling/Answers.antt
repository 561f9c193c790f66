use Rattle.strm_tape.proofs.TapeLemmas.{IsReading-step}
use Rattle.strm_tape.proofs.ReadingLemmas.{one_reading}
use Rattle.strm_tape.proofs.laws.steps_have_one_spelling.Goals as goal

pub returns : goal.returns
returns c = one_reading IsReading-step
