use Rattle.strm_frames.proofs.DemuxLemmas.{faults_exactly}
use Rattle.strm_frames.proofs.demuxes.Demux.feed.Goals as goal

pub returns-clause-exact : goal.returns-clause-exact
returns-clause-exact c = faults_exactly _ _ c.args.piece.now c.take_piece.result (record { ok = c.take_piece.ensures.ok; fault = c.take_piece.ensures.fault; known = c.take_piece.ensures.known })
