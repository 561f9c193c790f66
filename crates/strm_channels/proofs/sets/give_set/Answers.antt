use Rattle.std.proofs.Common.{◌+◌, refl, ap, sym, ◌∙◌, length, ◌<◌, arith}
use Rattle.std.proofs.lemmas.List.{length-map, set-get_or}
use Rattle.std.proofs.lemmas.Result.{on_ok_weaker, on_err_weaker}
use Rattle.strm_handles.specs.Handles.{live_of, next_index}
use Rattle.strm_machine.specs.State as machine
use Rattle.strm_machine.specs.State.{guest_in, no_guest}
use Rattle.strm_channels.specs.Guests.{guests_of, guest_of, live_in, sets_among, with_set_of}
use Rattle.strm_channels.proofs.GuestLemmas.{guest_in-seen, guests_of-made}
use Rattle.strm_channels.proofs.EndLemmas.{live_after}
use Rattle.strm_waitable_sets.proofs.SetLemmas.{count-new}
use Rattle.strm_channels.proofs.SetLemmas.{if_ok, sets_after}
use Rattle.strm_channels.proofs.sets.give_set.Goals as goal

pub returns-clause-gives : goal.returns-clause-gives
returns-clause-gives c =
    let guests = c.args.guests.now.items in
    let x = c.index_mut.result.now in
    let y = c.make_set.new.guest in
    let read = guest_in-seen guests c.args.guest x c.requires.there c.index_mut.ensures.value in
    let there : c.args.guest < length (guests_of guests) = omega (arith, c.requires.there, length-map guests guest_of) in
    let did = c.make_set.ensures in
    record {
      ok = if_ok c.make_set.result
          (λ number n e counter live. record {
            number = n ∙ ap (λ (k : machine.Guest). next_index k.handles) (sym read);
            guests = guests_of-made guests c.args.guest x y with_set_of c.requires.there c.index_mut.ensures.value e;
            counter = counter;
            live = ap live_in (guests_of-made guests c.args.guest x y (λ _. guest_of y) c.requires.there c.index_mut.ensures.value refl)
                ∙ live_after (guests_of guests) c.args.guest (guest_of y) there (live ∙ ap (λ (k : machine.Guest). live_of k.handles + 1) (sym read));
          })
          did.number did.ok did.counter did.live;
      err = on_err_weaker c.make_set.result
          (λ e. guests_of-made guests c.args.guest x y (λ g. g) c.requires.there c.index_mut.ensures.value e
          ∙ set-get_or (guests_of guests) c.args.guest no_guest)
          did.err;
      kept = did.kept;
    }

pub returns-clause-sets : goal.returns-clause-sets
returns-clause-sets c =
    let guests = c.args.guests.now.items in
    let g = guest_in (guests_of guests) c.args.guest in
    let there : c.args.guest < length (guests_of guests) = omega (arith, c.requires.there, length-map guests guest_of) in
    on_ok_weaker c.make_set.result
    (λ e. ap sets_among (guests_of-made guests c.args.guest c.index_mut.result.now c.make_set.new.guest with_set_of c.requires.there c.index_mut.ensures.value e)
    ∙ sets_after (guests_of guests) c.args.guest (with_set_of g) there (count-new g.sets))
    c.make_set.ensures.ok
