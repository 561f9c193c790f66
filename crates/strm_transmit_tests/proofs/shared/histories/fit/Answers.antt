use Rattle.std.proofs.Common.{refl}
use Rattle.strm_transmit_tests.proofs.shared.histories.fit.Goals as goal

pub returns-then-fits : goal.returns-then-fits
returns-then-fits g c = c.if-fits.ensures.0 refl
