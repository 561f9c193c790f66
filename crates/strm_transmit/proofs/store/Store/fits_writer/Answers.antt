use Rattle.std.proofs.Common.{rules}
use Rattle.strm_machine.specs.declared.streams.Side.TheVariants.{Writing}
use Rattle.strm_transmit.proofs.store.Store.fits_writer.Goals as goal

pub stream-requires : goal.stream-requires
stream-requires g c = rw (← c.self.view_is) (c.self.invariant.served.made Writing c.args.number c.in-Serves.stream (search rules))
