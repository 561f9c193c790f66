use Rattle.strm_bench.proofs.hosted.done.Goals as goal

pub returns-in-Ok : goal.returns-in-Ok
returns-in-Ok g c = c.apply.ensures.fits

pub returns-in-Err : goal.returns-in-Err
returns-in-Err g c = c.apply.ensures.fits
