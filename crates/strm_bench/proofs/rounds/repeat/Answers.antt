use Rattle.strm_bench.proofs.rounds.repeat.Goals as goal

pub stream_write-requires : goal.stream_write-requires
stream_write-requires g c = record { fits = c.loop-round.invariant }

pub stream_read-requires : goal.stream_read-requires
stream_read-requires g c = record { fits = c.in_ok-written.ensures.meets.fits }

pub loop-round-preserved : goal.loop-round-preserved
loop-round-preserved g c = c.in_ok-take_event.ensures.fits _ c.in_ok-taken.ensures.meets.fits
