use Rattle.std.proofs.Common.{sym, ◌∙◌, arith}
use Rattle.strm_codes.specs.Types.{payload_of}
use Rattle.strm_tape.specs.Spelling.{is_first_payload}
use Rattle.strm_tape.proofs.VersionLemmas.{all_more, all_over}
use Rattle.strm_tape.proofs.versions.are_first_readers.Goals as goal

pub loop-k-preserved : goal.loop-k-preserved
loop-k-preserved c =
    all_more (λ reader. is_first_payload (payload_of reader.ty)) c.args.readers.now c.loop-k.k c.index-readers-k.result (omega (arith, c.loop-k-test.true)) c.loop-k.invariant
    (sym (rw c.index-readers-k.is at c.is_first_reader.ensures) ∙ c.if-not-is_first_reader.false)

pub returns : goal.returns
returns c = all_over (λ reader. is_first_payload (payload_of reader.ty)) c.args.readers.now c.loop-k.k (omega (arith, c.loop-k-test.false)) c.loop-k.invariant
