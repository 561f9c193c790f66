use Rattle.std.proofs.Common.{arith, sym, eq-eqb}
use Rattle.std.proofs.lemmas.Bool.{eqb-true}
use Rattle.strm_lines.proofs.CutLemmas.{cut-first, cut-nowhere}
use Rattle.strm_lines.proofs.words.cut.Goals as goal

pub returns-in_err-at : goal.returns-in_err-at
returns-in_err-at c =
    rw c.from_residual.ensures
    (sym (cut-nowhere c.args.byte c.args.bytes.now (λ j h e. c.in_err-at.ensures j (omega arith) h (eq-eqb _ c.args.byte e))))

pub returns : goal.returns
returns c =
    let found = c.in_ok-at.ensures in
    rw (c.split_at.ensures.front, c.split_at-2.ensures.back)
    (sym (cut-first c.args.byte c.args.bytes.now c.in_ok-at.at found.0.high (eqb-true _ c.args.byte found.1) (λ j h e. found.0.before j (omega arith) h (eq-eqb _ c.args.byte e))))
