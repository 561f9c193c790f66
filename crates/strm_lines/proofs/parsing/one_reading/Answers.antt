use Rattle.strm_lines.proofs.LineLemmas.{one_spelling, spelled_not_bad, one_bad_line}
use Rattle.strm_lines.proofs.parsing.one_reading.Goals as goal

pub returns : goal.returns
returns c = record { steps = one_spelling; apart = spelled_not_bad; bad_line = one_bad_line }
