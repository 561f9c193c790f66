use Rattle.std.proofs.Common.{◌≡◌, ◌<◌, ap, sym, ◌∙◌, length, set, arith}
use Rattle.std.specs.Prelude.{is_err}
use Rattle.std.proofs.lemmas.List.{length-map}
use Rattle.strm_handles.specs.Handles.{removed}
use Rattle.strm_waitable_sets.specs.Sets.{without_set}
use Rattle.strm_machine.specs.State as machine
use Rattle.strm_machine.specs.State.{guest_in, with_table}
use Rattle.strm_channels.specs.Guests.{guests_of, guest_of, live_in, sets_among, without_set_in}
use Rattle.strm_channels.proofs.GuestLemmas.{guest_in-seen, guests_of-with_table, was_ok}
use Rattle.strm_channels.proofs.EndLemmas.{live_less}
use Rattle.strm_waitable_sets.proofs.SetLemmas.{count-without}
use Rattle.strm_channels.proofs.SetLemmas.{sets_less, set_live}
use Rattle.strm_channels.proofs.sets.remove_set.Goals as goal

pub returns-clause-frees : goal.returns-clause-frees
returns-clause-frees c =
    let guests = c.args.guests.now.items in
    let g = guest_in (guests_of guests) c.args.guest in
    let x = c.index_mut-guest.result.now in
    let read = guest_in-seen guests c.args.guest x c.requires.there c.index_mut-guest.ensures.value in
    let named = rw read at c.requires.named in
    let dropped = ap is_err (c.waitable_set_remove.ensures.answer ∙ named) in
    let freed = was_ok c.waitable_set_remove.result _ dropped c.waitable_set_remove.ensures.removes.ok in
    let taken = was_ok c.remove.result _ (ap is_err c.unwrap-2.ensures) c.remove.ensures.ok in
    let now : guests_of (set guests c.args.guest (record x { table = c.waitable_set_remove.new.self; sets = c.remove.new.self })) ≡ without_set_in (guests_of guests) c.args.guest c.args.handle c.args.set = guests_of-with_table guests c.args.guest x c.waitable_set_remove.new.self c.remove.new.self c.requires.there c.index_mut-guest.ensures.value
    ∙ rw (freed, taken) (ap (λ (k : machine.Guest). with_table (guests_of guests) c.args.guest (removed k.handles c.args.handle) (without_set k.sets c.args.set)) (sym read)) in
    let there : c.args.guest < length (guests_of guests) = omega (arith, c.requires.there, length-map guests guest_of) in
    record {
      guests = now;
      counter = was_ok c.waitable_set_remove.result _ dropped c.waitable_set_remove.ensures.removes.live;
      live = omega (arith, ap live_in now, live_less (guests_of guests) c.args.guest (record g { handles = removed g.handles c.args.handle; sets = without_set g.sets c.args.set }) there (set_live g.handles c.args.handle c.args.set c.requires.named));
    }

pub returns-clause-sets : goal.returns-clause-sets
returns-clause-sets c =
    let guests = c.args.guests.now.items in
    let g = guest_in (guests_of guests) c.args.guest in
    let there : c.args.guest < length (guests_of guests) = omega (arith, c.requires.there, length-map guests guest_of) in
    omega (arith, ap sets_among (returns-clause-frees c).guests, sets_less (guests_of guests) c.args.guest (record g { handles = removed g.handles c.args.handle; sets = without_set g.sets c.args.set }) there (count-without g.sets c.args.set c.requires.made))
