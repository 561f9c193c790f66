use Rattle.std.proofs.Common.{◌∙◌, sym}
use Rattle.strm_channels.specs.Guests.{guests_of}
use Rattle.strm_machine.proofs.CarryLemmas.{carried-nothing}
use Rattle.strm_channels.proofs.meetings.carry.Goals as goal

pub returns-then-size-eq0-clause-carries : goal.returns-then-size-eq0-clause-carries
returns-then-size-eq0-clause-carries c = record {
  ok = carried-nothing (guests_of c.args.guests.now.items) c.args.payload c.args.write.now c.args.read.now c.args.count (sym c.size.ensures.exact ∙ c.if-size-eq0.true);
  bad = tt;
  err = tt;
}
