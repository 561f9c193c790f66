use Rattle.std.proofs.Common.{arith}
use Rattle.strm_session.proofs.GeneratedLemmas.{drawn_few}
use Rattle.strm_session.proofs.serving.answer_numbers.Goals as goal

pub answer_drawn-requires-clause-few : goal.answer_drawn-requires-clause-few
answer_drawn-requires-clause-few g c =
    drawn_few c.args.count c.args.seed c.new.result c.new.ensures (λ l. omega (arith, l, c.if-count-gt-MAX_DRAWN.false))
