use Rattle.std.proofs.Common.{◌≡◌, set, arith, ap, sym, ◌∙◌}
use Rattle.std.proofs.lemmas.List.{length-map}
use Rattle.strm_handles.specs.Handles.{removed}
use Rattle.strm_handles.proofs.LookupLemmas.{live_of-removed-end}
use Rattle.strm_waitable_sets.specs.Sets.{handle_left}
use Rattle.strm_machine.specs.State as machine
use Rattle.strm_machine.specs.State.{with_table, guest_in}
use Rattle.strm_channels.specs.Guests.{guests_of, guest_of, live_in, without_handle_in}
use Rattle.strm_channels.proofs.GuestLemmas.{guest_in-seen, guests_of-with_table}
use Rattle.strm_channels.proofs.EndLemmas.{rooms_after, room_after, live_less}
use Rattle.strm_channels.proofs.ends.remove_end.Goals as goal

pub end_remove-requires-clause-end : goal.end_remove-requires-clause-end
end_remove-requires-clause-end c =
    let guests = c.args.guests.now.items in
    let read = guest_in-seen guests c.args.end.now.guest c.index_mut-guest.result.now c.requires.there c.index_mut-guest.ensures.value in
    rw read at c.requires.end

pub returns-clause-frees : goal.returns-clause-frees
returns-clause-frees c =
    let guests = c.args.guests.now.items in
    let end = c.args.end.now in
    let g = guest_in (guests_of guests) end.guest in
    let x = c.index_mut-guest.result.now in
    let read = guest_in-seen guests end.guest x c.requires.there c.index_mut-guest.ensures.value in
    let now : guests_of (set guests end.guest (record x { table = c.end_remove.new.self; sets = c.leave.new.self })) ≡ without_handle_in (guests_of guests) end.guest end.handle = guests_of-with_table guests end.guest x c.end_remove.new.self c.leave.new.self c.requires.there c.index_mut-guest.ensures.value
    ∙ rw (c.end_remove.ensures.handles, c.leave.ensures) (ap (λ (k : machine.Guest). with_table (guests_of guests) end.guest (removed k.handles end.handle) (handle_left k.sets end.handle)) (sym read)) in
    let less = live_of-removed-end g.handles end.handle c.requires.end in
    record {
      guests = now;
      counter = c.end_remove.ensures.live;
      live = omega (arith, ap live_in now, live_less (guests_of guests) end.guest (record g { handles = removed g.handles end.handle; sets = handle_left g.sets end.handle }) (omega (arith, c.requires.there, length-map guests guest_of)) less);
    }

pub returns-clause-rooms : goal.returns-clause-rooms
returns-clause-rooms c = λ n.
    let guests = c.args.guests.now.items in
    let end = c.args.end.now in
    let x = c.index_mut-guest.result.now in
    omega (arith, rooms_after guests end.guest x (record x { table = c.end_remove.new.self; sets = c.leave.new.self }) 0 n c.requires.there c.index_mut-guest.ensures.value (omega (arith, c.end_remove.ensures.room)))

pub returns-clause-room : goal.returns-clause-room
returns-clause-room c =
    let guests = c.args.guests.now.items in
    let end = c.args.end.now in
    let x = c.index_mut-guest.result.now in
    omega (arith, c.end_remove.ensures.room, room_after guests end.guest (record x { table = c.end_remove.new.self; sets = c.leave.new.self }) c.requires.there)
