use Rattle.std.proofs.Common.{◌≡◌, length, arith}
use Rattle.strm_program_ends.proofs.QueueLemmas.{fed_tells}
use Rattle.strm_program_ends.proofs.queue_writer.QueueWriterHostWriter.feed.Goals as goal

pub returns-clause-ok : goal.returns-clause-ok
returns-clause-ok c =
    let old = c.args.self.now in
    let count : c.len.result ≡ length old.polls.items = omega (arith, c.len.ensures, old.polls.ok.0) in
    fed_tells old.kind old.fed c.feed.new.self old.polls.items old.closed c.len.result c.args.bytes.now old.polled c.in_ok-feed.ensures.ok count
