use Rattle.std.proofs.Common.{◌∙◌, ◌+◌, ◌-◌, arith}
use Rattle.strm_tape.specs.Reading.{read_writer_record}
use Rattle.strm_tape.proofs.SpelledLemmas.{after_none, after_some, after_over}
use Rattle.strm_tape.proofs.lists.after_records.Goals as goal

pub returns-in_default : goal.returns-in_default
returns-in_default c =
    after_none (read_writer_record c.args.payload.now) (c.args.count - c.loop-k.k) c.loop-k.rest.now (omega (arith, c.loop-k-test.true)) (rw c.in_default.is at c.in_ok-behind.ensures)
    ∙ c.loop-k.invariant

pub loop-k-preserved : goal.loop-k-preserved
loop-k-preserved c =
    after_some (read_writer_record c.args.payload.now) (c.args.count - c.loop-k.k) (c.args.count - (c.loop-k.k + 1)) c.loop-k.rest.now c.in-Some.behind.now (omega (arith, c.loop-k-test.true)) (rw c.in-Some.is at c.in_ok-behind.ensures)
    ∙ c.loop-k.invariant

pub returns : goal.returns
returns c =
    after_over (read_writer_record c.args.payload.now) (c.args.count - c.loop-k.k) c.loop-k.rest.now (omega (arith, c.loop-k-test.false, c.loop-k.auto.k-end))
    ∙ c.loop-k.invariant
