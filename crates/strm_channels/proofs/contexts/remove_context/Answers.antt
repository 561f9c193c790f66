use Rattle.std.proofs.Common.{◌≡◌, ◌<◌, ap, sym, ◌∙◌, length, set, arith}
use Rattle.std.specs.Prelude.{is_err}
use Rattle.std.proofs.lemmas.List.{length-map}
use Rattle.strm_handles.specs.Handles.{removed}
use Rattle.strm_machine.specs.State as machine
use Rattle.strm_machine.specs.State.{guest_in, with_handles}
use Rattle.strm_channels.specs.Guests.{guests_of, guest_of, live_in, without_context_in}
use Rattle.strm_channels.proofs.GuestLemmas.{guest_in-seen, guests_of-with_handles, was_ok}
use Rattle.strm_channels.proofs.EndLemmas.{live_less}
use Rattle.strm_channels.proofs.ContextLemmas.{context_live}
use Rattle.strm_channels.proofs.contexts.remove_context.Goals as goal

pub returns-clause-frees : goal.returns-clause-frees
returns-clause-frees c =
    let guests = c.args.guests.now.items in
    let g = guest_in (guests_of guests) c.args.guest in
    let x = c.index_mut.result.now in
    let read = guest_in-seen guests c.args.guest x c.requires.there c.index_mut.ensures.value in
    let named = rw read at c.requires.named in
    let dropped = ap is_err (c.error_context_drop.ensures.answer ∙ named) in
    let freed = was_ok c.error_context_drop.result _ dropped c.error_context_drop.ensures.removes.ok in
    let now : guests_of (set guests c.args.guest (record x { table = c.error_context_drop.new.self })) ≡ without_context_in (guests_of guests) c.args.guest c.args.handle = guests_of-with_handles guests c.args.guest x c.error_context_drop.new.self c.requires.there c.index_mut.ensures.value
    ∙ rw freed (ap (λ (k : machine.Guest). with_handles (guests_of guests) c.args.guest (removed k.handles c.args.handle)) (sym read)) in
    let there : c.args.guest < length (guests_of guests) = omega (arith, c.requires.there, length-map guests guest_of) in
    record {
      guests = now;
      counter = was_ok c.error_context_drop.result _ dropped c.error_context_drop.ensures.removes.live;
      live = omega (arith, ap live_in now, live_less (guests_of guests) c.args.guest (record g { handles = removed g.handles c.args.handle }) there (context_live g.handles c.args.handle c.args.context c.requires.named));
    }
