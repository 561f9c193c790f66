use Rattle.strm_bench.proofs.taken.prepare.Goals as goal

pub pipe-requires : goal.pipe-requires
pipe-requires g c = record {
  fits = c.in_ok-stream.ensures.fits _ (c.in_ok-pair.ensures.fits _ (c.in_ok-fill.ensures _ (c.in_ok-touch.ensures _ (c.in_ok-add_guest.ensures.fits _ c.requires))));
}
