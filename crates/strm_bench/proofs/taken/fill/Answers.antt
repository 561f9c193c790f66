use Rattle.strm_bench.proofs.taken.fill.Goals as goal

pub loop-preserved : goal.loop-preserved
loop-preserved c tells fits = c.in_ok-stream_new.ensures.fits tells (c.loop.invariant tells fits)
