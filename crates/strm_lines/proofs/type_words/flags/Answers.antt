use Rattle.std.proofs.Common.{arith, sym}
use Rattle.strm_lines.proofs.ReadingLemmas.{IsReading-within}
use Rattle.strm_lines.proofs.type_words.flags.Goals as goal

pub overflow_cast-result : goal.overflow_cast-result
overflow_cast-result c =
    let r = (IsReading-within 1 32 (omega arith)).sound c.args.count.now c.in-Some.flags (sym c.in-Some.ensures) in
    omega (arith, r.1.1)
