use Rattle.std.proofs.Common.{ap, length, length-append, length-drop, decimal, drop, arith}
use Rattle.strm_lines.proofs.TailLemmas.{short_decimal, digit_text}
use Rattle.strm_lines.proofs.tails.Tail.put_number.Goals as goal

pub write_digits-self-inside-requires : goal.write_digits-self-inside-requires
write_digits-self-inside-requires c =
    let t = c.self.inside in
    let few = short_decimal c.args.number (omega arith) in
    (omega (arith, few, ap length c.self.view_is, length-drop t.start t.bytes), omega arith)

pub returns-clause-short : goal.returns-clause-short
returns-clause-short c =
    let t = c.self.inside in
    let few = short_decimal c.args.number (omega arith) in
    let told = length-append (decimal c.args.number) (drop t.start t.bytes) in
    omega (arith, few, told, ap length c.write_digits-self-inside.ensures.written, ap length c.self.view_is)

pub returns-then-number-lt10-clause-text : goal.returns-then-number-lt10-clause-text
returns-then-number-lt10-clause-text c = rw (digit_text c.args.number (omega (arith, c.if-number-lt10.true))) c.put.ensures

pub returns-then-number-lt10-clause-short : goal.returns-then-number-lt10-clause-short
returns-then-number-lt10-clause-short c = omega (arith, ap length c.put.ensures)
