use Rattle.std.proofs.Common.{ap, sym, ◌∙◌}
use Rattle.strm_waitable_sets.specs.Sets.{members}
use Rattle.strm_machine.specs.State as machine
use Rattle.strm_machine.specs.WaitableSets.{has_some}
use Rattle.strm_channels.proofs.GuestLemmas.{guest_in-seen}
use Rattle.strm_channels.proofs.SetLemmas.{said_is_some}
use Rattle.strm_channels.proofs.sets.has_member.Goals as goal

pub returns : goal.returns
returns c =
    let x = c.index.result.now in
    said_is_some x.sets c.args.set c.has_member.result c.has_member.ensures.some c.has_member.ensures.none
    ∙ ap (λ (k : machine.Guest). has_some (members k.sets c.args.set)) (sym (guest_in-seen c.args.guests.now.items c.args.guest x c.requires.there c.index.ensures))
