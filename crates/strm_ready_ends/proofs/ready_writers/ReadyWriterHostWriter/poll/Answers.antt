use Rattle.strm_buffers.proofs.EndLemmas.{Fills-same}
use Rattle.strm_ready_ends.proofs.ready_writers.ReadyWriterHostWriter.poll.Goals as goal

pub returns-in-Ok-clause-fills : goal.returns-in-Ok-clause-fills
returns-in-Ok-clause-fills c = Fills-same c.args.window.now

pub returns-in-Err-clause-fills : goal.returns-in-Err-clause-fills
returns-in-Err-clause-fills c = Fills-same c.args.window.now
