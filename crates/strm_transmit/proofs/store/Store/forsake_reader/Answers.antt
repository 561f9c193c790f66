use Rattle.std.proofs.Common.{rules}
use Rattle.strm_machine.specs.declared.streams.Side.TheVariants.{Reading}
use Rattle.strm_transmit.proofs.ForsakeLemmas.{leaves-does, leaves-fits}
use Rattle.strm_transmit.proofs.store.Store.forsake_reader.Goals as goal

pub close_reader-requires : goal.close_reader-requires
close_reader-requires g c = (c.requires.fits.readers c.in-Host.number c.args.stream (c.served.ensures.serves Reading c.in-Host.number c.args.stream (search rules))).there

pub retire_reader-requires-clause-serves : goal.retire_reader-requires-clause-serves
retire_reader-requires-clause-serves g c =
    rw c.lose.ensures (c.served.ensures.serves Reading c.in-Host.number c.args.stream (search rules))

pub returns-in-Host-clause-does : goal.returns-in-Host-clause-does
returns-in-Host-clause-does g c =
    leaves-does _ _ _ _ _ _ _ (record {
      before = record { served = c.served.ensures; made = c.requires.there; owner = search rules; fits = c.requires.fits };
      gone = c.lose.ensures;
      retired = c.retire_reader.ensures;
      closes = c.close_reader.ensures;
    })

pub returns-in-Host-clause-fits : goal.returns-in-Host-clause-fits
returns-in-Host-clause-fits g c =
    leaves-fits _ _ _ _ _ _ _ (record {
      before = record { served = c.served.ensures; made = c.requires.there; owner = search rules; fits = c.requires.fits };
      gone = c.lose.ensures;
      retired = c.retire_reader.ensures;
      closes = c.close_reader.ensures;
    })
