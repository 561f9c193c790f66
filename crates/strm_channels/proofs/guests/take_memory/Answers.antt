use Rattle.std.proofs.Common.{ap, ◌∙◌}
use Rattle.strm_channels.specs.Guests.{guests_of, with_linear}
use Rattle.strm_channels.proofs.GuestLemmas.{guests_of-with_linear}
use Rattle.strm_channels.proofs.guests.take_memory.Goals as goal

pub returns-clause-rest : goal.returns-clause-rest
returns-clause-rest c =
    guests_of-with_linear c.args.guests.now.items c.args.guest c.index_mut.result.now c.replace.new.dest c.requires c.index_mut.ensures.value
    ∙ ap (with_linear (guests_of c.args.guests.now.items) c.args.guest) (c.replace.ensures.after ∙ c.empty.ensures)
