use Rattle.std.proofs.Common.{refl}
use Rattle.strm_machine.specs.declared.streams.Side.TheVariants.{Writing, Reading}
use Rattle.strm_transmit.proofs.NextLemmas.{fit_none, fit_more, fits_not, fits_all}
use Rattle.strm_transmit.proofs.store.Store.fits.Goals as goal

pub loop-number-init : goal.loop-number-init
loop-number-init g c = fit_none c.args.self.now _

pub returns-then-not-fits_writer : goal.returns-then-not-fits_writer
returns-then-not-fits_writer g c = fits_not Writing c.args.self.now _ c.loop-number.number c.if-not-fits_writer.ensures

pub returns-then-not-fits_reader : goal.returns-then-not-fits_reader
returns-then-not-fits_reader g c = fits_not Reading c.args.self.now _ c.loop-number.number c.if-not-fits_reader.ensures

pub loop-number-preserved : goal.loop-number-preserved
loop-number-preserved g c =
    fit_more c.args.self.now _ c.loop-number.number c.loop-number.invariant (c.if-not-fits_writer.ensures.0 refl) (c.if-not-fits_reader.ensures.0 refl)

pub returns : goal.returns
returns g c = fits_all c.args.self.now _ c.loop-number.number c.served.ensures c.loop-number-test.false c.loop-number.invariant
