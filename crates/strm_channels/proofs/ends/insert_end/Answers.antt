use Rattle.std.proofs.Common.{arith, ap, sym, ◌∙◌}
use Rattle.strm_handles.specs.Handles.{live_of, next_index, inserted}
use Rattle.strm_machine.specs.State as machine
use Rattle.strm_machine.specs.State.{with_handles, guest_in}
use Rattle.strm_machine.specs.Making.{end_entry}
use Rattle.strm_channels.specs.Guests.{guests_of, guest_of, live_in}
use Rattle.std.proofs.lemmas.List.{length-map}
use Rattle.strm_channels.proofs.GuestLemmas.{guest_in-seen, guests_of-with_handles}
use Rattle.strm_channels.proofs.EndLemmas.{rooms_after, rooms_beside, live_after}
use Rattle.strm_channels.proofs.ends.insert_end.Goals as goal

pub returns-clause-adds : goal.returns-clause-adds
returns-clause-adds c =
    let guests = c.args.guests.now.items in
    let read = guest_in-seen guests c.args.guest c.index_mut.result.now c.requires.there c.index_mut.ensures.value in
    let now = guests_of-with_handles guests c.args.guest c.index_mut.result.now c.insert.new.table c.requires.there c.index_mut.ensures.value in
    record {
      number = c.insert.ensures.number ∙ ap (λ (k : machine.Guest). next_index k.handles) (sym read);
      guests = now
          ∙ ap (with_handles (guests_of guests) c.args.guest) (c.insert.ensures.handles
          ∙ ap (λ (k : machine.Guest). inserted k.handles (end_entry c.args.side c.args.ty c.args.stream)) (sym read));
      counter = c.insert.ensures.counter;
      live = ap live_in now
          ∙ live_after (guests_of guests) c.args.guest (record (guest_in (guests_of guests) c.args.guest) { handles = c.insert.new.table.handles }) (omega (arith, c.requires.there, length-map guests guest_of))
          (omega (arith, c.insert.ensures.live, ap (λ (k : machine.Guest). live_of k.handles) read));
    }

pub returns-clause-rooms : goal.returns-clause-rooms
returns-clause-rooms c = λ n.
    rooms_after c.args.guests.now.items c.args.guest c.index_mut.result.now (record c.index_mut.result.now { table = c.insert.new.table }) 1 n c.requires.there c.index_mut.ensures.value c.insert.ensures.room

pub returns-clause-others : goal.returns-clause-others
returns-clause-others c = λ n ne.
    rooms_beside c.args.guests.now.items c.args.guest n (record c.index_mut.result.now { table = c.insert.new.table }) ne
