use Rattle.strm_bench.proofs.hosted.prepare.Goals as goal

pub host_new-requires : goal.host_new-requires
host_new-requires g c = record { fits = c.in_ok-touch.ensures _ (c.in_ok-add_guest.ensures.fits _ c.requires) }

pub returns : goal.returns
returns g c = c.in_ok-handle.ensures.fits _ c.in_ok-stream.ensures.meets.fits
