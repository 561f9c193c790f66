use Rattle.std.proofs.Common.{sym, ap, ◌∙◌}
use Rattle.strm_memory.specs.Linear.{LinearMemory, is_lent_base}
use Rattle.strm_channels.specs.Guests.{guests_of, with_linear}
use Rattle.strm_channels.proofs.GuestLemmas.{guests_of-with_linear, linear_in-seen, memory_in-seen}
use Rattle.strm_channels.proofs.guests.move_memory.Goals as goal

pub moved-requires-clause-lent : goal.moved-requires-clause-lent
moved-requires-clause-lent c =
    ap (λ (m : LinearMemory). is_lent_base m.base) (sym (linear_in-seen c.args.guests.now.items c.args.guest c.index_mut.result.now c.requires.there c.index_mut.ensures.value))
    ∙ c.requires.lent

pub moved-requires-clause-begins : goal.moved-requires-clause-begins
moved-requires-clause-begins c =
    rw (memory_in-seen c.args.guests.now.items c.args.guest c.index_mut.result.now c.requires.there c.index_mut.ensures.value) at c.requires.begins

pub returns-clause-moved : goal.returns-clause-moved
returns-clause-moved c =
    guests_of-with_linear c.args.guests.now.items c.args.guest c.index_mut.result.now c.moved.new.self c.requires.there c.index_mut.ensures.value
    ∙ ap (with_linear (guests_of c.args.guests.now.items) c.args.guest) c.moved.ensures.moved

pub returns-clause-left : goal.returns-clause-left
returns-clause-left c =
    c.moved.ensures.left ∙ sym (linear_in-seen c.args.guests.now.items c.args.guest c.index_mut.result.now c.requires.there c.index_mut.ensures.value)
