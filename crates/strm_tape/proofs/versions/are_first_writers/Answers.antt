use Rattle.std.proofs.Common.{sym, ◌∙◌, arith}
use Rattle.strm_codes.specs.Types.{payload_of}
use Rattle.strm_tape.specs.Spelling.{is_first_payload}
use Rattle.strm_tape.proofs.VersionLemmas.{all_more, all_over}
use Rattle.strm_tape.proofs.versions.are_first_writers.Goals as goal

pub loop-k-preserved : goal.loop-k-preserved
loop-k-preserved c =
    all_more (λ writer. is_first_payload (payload_of writer.ty)) c.args.writers.now c.loop-k.k c.index-writers-k.result (omega (arith, c.loop-k-test.true)) c.loop-k.invariant
    (sym (rw c.index-writers-k.is at c.is_first_writer.ensures) ∙ c.if-not-is_first_writer.false)

pub returns : goal.returns
returns c = all_over (λ writer. is_first_payload (payload_of writer.ty)) c.args.writers.now c.loop-k.k (omega (arith, c.loop-k-test.false)) c.loop-k.invariant
