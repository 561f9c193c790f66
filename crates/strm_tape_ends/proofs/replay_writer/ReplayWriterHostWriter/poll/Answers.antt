use Rattle.strm_buffers.proofs.EndLemmas.{Fills-same}
use Rattle.strm_tape_ends.proofs.replay_writer.ReplayWriterHostWriter.poll.Goals as goal

pub returns-in-Err-clause-fills : goal.returns-in-Err-clause-fills
returns-in-Err-clause-fills c = Fills-same c.args.window.now
