use Rattle.std.proofs.Common.{rules}
use Rattle.strm_machine.specs.declared.streams.Side.TheVariants.{Reading}
use Rattle.strm_transmit.proofs.store.Store.fits_reader.Goals as goal

pub stream-requires : goal.stream-requires
stream-requires g c = rw (← c.self.view_is) (c.self.invariant.served.made Reading c.args.number c.in-Serves.stream (search rules))
