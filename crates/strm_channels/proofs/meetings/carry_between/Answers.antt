use Rattle.strm_channels.specs.Guests.{guests_of}
use Rattle.strm_channels.proofs.CarryingLemmas.{received_ok, received_bad}
use Rattle.strm_channels.proofs.meetings.carry_between.Goals as goal

pub returns-clause-carries : goal.returns-clause-carries
returns-clause-carries c =
    let before = guests_of c.args.guests.now.items in
    let after = guests_of c.receive_between.new.guests.items in
    let did = c.receive_between.ensures.received in
    record {
      ok = received_ok before after c.args.payload c.args.write.now c.args.read.now c.args.count c.receive_between.result did;
      bad = received_bad before after c.args.payload c.args.write.now c.args.read.now c.args.count c.receive_between.result did;
      err = did.err;
    }
