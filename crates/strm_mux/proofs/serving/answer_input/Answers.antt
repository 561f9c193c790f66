use Rattle.std.proofs.Common.{arith}
use Rattle.strm_mux.proofs.LineLemmas.{short_mux}
use Rattle.strm_mux.proofs.serving.answer_input.Goals as goal

pub answer_mux-requires-clause-few : goal.answer_mux-requires-clause-few
answer_mux-requires-clause-few c =
    omega (arith, short_mux c.in-Ok.mux c.args.input.now c.in-Ok.ensures.ok, c.requires.few)
