use Rattle.std.proofs.Common.{◌∙◌}
use Rattle.strm_codes.proofs.ResultLemmas.{on_err}
use Rattle.strm_lines.proofs.PartLemmas.{part_of_items}
use Rattle.strm_lines.proofs.texts.push_parts.Goals as goal

pub returns-in_err-push_slice-clause-err : goal.returns-in_err-push_slice-clause-err
returns-in_err-push_slice-clause-err c =
    on_err c.from_residual.result
    (part_of_items (λ part. part.now) c.args.parts.now c.loop-part.part-index c.args.out.now c.push_slice.new.self (c.in_err-push_slice.ensures.err ∙ c.loop-part.invariant))
