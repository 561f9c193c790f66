use Rattle.std.proofs.Common.{refl}
use Rattle.strm_host_tests.proofs.readers.must_fit.Goals as goal

pub returns-then-fits : goal.returns-then-fits
returns-then-fits g c = c.if-fits.ensures.0 refl
