use Rattle.std.proofs.Common.{ap}
use Rattle.strm_waitable_sets.specs.Sets.{handle_joined}
use Rattle.strm_machine.specs.State as machine
use Rattle.strm_channels.proofs.GuestLemmas.{guests_of-made}
use Rattle.std.proofs.lemmas.Result.{on_ok_weaker}
use Rattle.strm_channels.specs.Guests.{guest_of}
use Rattle.strm_channels.proofs.sets.join_set.Goals as goal

pub returns-clause-ok : goal.returns-clause-ok
returns-clause-ok c =
    let x = c.index_mut.result.now in
    on_ok_weaker c.join.result
    (λ e. guests_of-made c.args.guests.now.items c.args.guest x (record x { sets = c.join.new.self }) (λ (k : machine.Guest). record k { sets = handle_joined k.sets c.args.handle c.args.set }) c.requires.there c.index_mut.ensures.value
    (ap (λ sets. guest_of (record x { sets = sets })) e))
    c.join.ensures.ok
