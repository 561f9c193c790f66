use Rattle.std.proofs.Common.{◌∙◌, sym, ap}
use Rattle.strm_memory.specs.Bytes.{put_at}
use Rattle.strm_memory.specs.Linear.{LinearMemory, with_contents}
use Rattle.strm_channels.specs.Guests.{guests_of, with_linear}
use Rattle.strm_channels.proofs.GuestLemmas.{guests_of-with_linear, linear_in-seen, memory_in-seen, was_ok}
use Rattle.strm_channels.proofs.guests.write_bytes.Goals as goal

pub returns-clause-guests : goal.returns-clause-guests
returns-clause-guests c =
    let x = c.index_mut.result.now in
    let before = memory_in-seen c.args.guests.now.items c.args.guest x c.requires.there c.index_mut.ensures.value in
    let lay = linear_in-seen c.args.guests.now.items c.args.guest x c.requires.there c.index_mut.ensures.value in
    let inside = rw before at c.requires.inside in
    let stored = was_ok c.store.result _ (c.store.ensures.out_of_bounds ∙ inside) c.store.ensures.ok in
    guests_of-with_linear c.args.guests.now.items c.args.guest x c.store.new.self c.requires.there c.index_mut.ensures.value
    ∙ ap (with_linear (guests_of c.args.guests.now.items) c.args.guest) (stored ∙ ap (λ (m : LinearMemory). with_contents m (put_at m.bytes c.args.address c.args.bytes.now)) (sym lay))
