use Rattle.strm_tape.proofs.TapeLemmas.{IsReading-tape}
use Rattle.strm_tape.proofs.ReadingLemmas.{one_reading}
use Rattle.strm_tape.proofs.laws.tapes_have_one_spelling.Goals as goal

pub returns : goal.returns
returns c = one_reading IsReading-tape
