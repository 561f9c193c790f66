use Rattle.std.proofs.Common.{sym, arith}
use Rattle.strm_mux.proofs.LineLemmas.{lane_fits}
use Rattle.strm_mux.proofs.lines.lane_number.Goals as goal

pub overflow_cast-result : goal.overflow_cast-result
overflow_cast-result c = omega (arith, lane_fits c.args.word.now c.in_ok-number.number (sym c.in_ok-number.ensures))
