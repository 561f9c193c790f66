use Rattle.strm_mux.proofs.LineLemmas.{one_given, puts_not_bad, one_bad}
use Rattle.strm_mux.proofs.lines.one_reading.Goals as goal

pub returns : goal.returns
returns c = record { given = one_given; apart = puts_not_bad; bad_line = one_bad }
