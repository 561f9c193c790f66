use Rattle.strm_mux.proofs.MuxServingLemmas.{carried_by}
use Rattle.strm_mux.proofs.serving.answer_mux.Goals as goal

pub returns-in_ok-text-in-Ok-clause-carried : goal.returns-in_ok-text-in-Ok-clause-carried
returns-in_ok-text-in-Ok-clause-carried c = λ input h.
    let carried = c.in-Ok.carried in
    let told = c.in-Ok.ensures in
    carried_by c.args.sizes.write c.args.sizes.read carried.moved input _ c.args.mux.now carried.steps carried.replies h
    told.carried
    (c.in_ok-text-in-Ok.ensures h.given (told.delivers h.given h.carries) h.puts.have)
