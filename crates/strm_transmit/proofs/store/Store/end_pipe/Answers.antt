use Rattle.std.proofs.Common.{◌<◌, length, rules, subst, sym}
use Rattle.strm_buffers.specs.Tells.{Tells}
use Rattle.strm_machine.specs.declared.streams.Side.TheVariants.{Writing}
use Rattle.strm_transmit.proofs.store.Store.end_pipe.Goals as goal

pub close_reader-requires : goal.close_reader-requires
close_reader-requires g c = (c.requires.fits.readers c.args.host c.args.stream c.requires.serves).there

pub retire-requires-clause-serves : goal.retire-requires-clause-serves
retire-requires-clause-serves g c =
    rw (c.retire_reader.ensures, c.end_stream.ensures) (c.served.ensures.serves Writing c.in-Host.number c.args.stream (search rules))

pub close_writer-requires : goal.close_writer-requires
close_writer-requires g c =
    subst (λ (x : Tells). c.in-Host.number < length x.writers) (sym c.close_reader.ensures) (c.requires.fits.writers c.in-Host.number c.args.stream (c.served.ensures.serves Writing c.in-Host.number c.args.stream (search rules))).there
