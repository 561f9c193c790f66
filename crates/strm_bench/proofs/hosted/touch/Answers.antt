use Rattle.strm_bench.proofs.hosted.touch.Goals as goal

pub loop-preserved : goal.loop-preserved
loop-preserved c tells fits = c.in_ok-poke.ensures.fits tells (c.loop.invariant tells fits)
