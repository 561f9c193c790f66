use Rattle.std.proofs.Common.{rules}
use Rattle.strm_machine.specs.declared.streams.Side.TheVariants.{Writing}
use Rattle.strm_transmit.proofs.ForsakeLemmas.{forsakes-does, forsakes-fits}
use Rattle.strm_transmit.proofs.store.Store.forsake_writer.Goals as goal

pub close_writer-requires : goal.close_writer-requires
close_writer-requires g c = (c.requires.fits.writers c.in-Host.number c.args.stream (c.served.ensures.serves Writing c.in-Host.number c.args.stream (search rules))).there

pub retire-requires-clause-serves : goal.retire-requires-clause-serves
retire-requires-clause-serves g c =
    rw c.lose.ensures (c.served.ensures.serves Writing c.in-Host.number c.args.stream (search rules))

pub returns-in-Host-clause-does : goal.returns-in-Host-clause-does
returns-in-Host-clause-does g c =
    forsakes-does _ _ _ _ _ _ _ (record {
      before = record { served = c.served.ensures; made = c.requires.there; owner = search rules; fits = c.requires.fits };
      gone = c.lose.ensures;
      retired = c.retire.ensures;
      closes = c.close_writer.ensures.closes;
      others = c.close_writer.ensures.others;
    })

pub returns-in-Host-clause-fits : goal.returns-in-Host-clause-fits
returns-in-Host-clause-fits g c =
    forsakes-fits _ _ _ _ _ _ _ (record {
      before = record { served = c.served.ensures; made = c.requires.there; owner = search rules; fits = c.requires.fits };
      gone = c.lose.ensures;
      retired = c.retire.ensures;
      closes = c.close_writer.ensures.closes;
      others = c.close_writer.ensures.others;
    })
