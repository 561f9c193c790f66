use Rattle.std.proofs.Common.{Some, sym, ap, ◌∙◌}
use Rattle.strm_memory.specs.Linear.{LinearMemory, told_at}
use Rattle.strm_channels.specs.Guests.{guests_of, with_linear}
use Rattle.strm_channels.proofs.GuestLemmas.{guests_of-with_linear, linear_in-seen}
use Rattle.strm_channels.proofs.guests.tell_base.Goals as goal

pub returns-clause-told : goal.returns-clause-told
returns-clause-told c =
    let guests = c.args.guests.now.items in
    let x = c.index_mut.result.now in
    let lies = linear_in-seen guests c.args.guest x c.requires c.index_mut.ensures.value in
    guests_of-with_linear guests c.args.guest x c.tell_base.new.self c.requires c.index_mut.ensures.value
    ∙ ap (with_linear (guests_of guests) c.args.guest) (c.tell_base.ensures.told ∙ ap (λ (m : LinearMemory). record m { base = Some (told_at m.base c.tell_base.result) }) (sym lies))

pub returns-clause-again : goal.returns-clause-again
returns-clause-again c =
    let lies = linear_in-seen c.args.guests.now.items c.args.guest c.index_mut.result.now c.requires c.index_mut.ensures.value in
    rw (ap (λ (m : LinearMemory). m.base) lies) c.tell_base.ensures.again
