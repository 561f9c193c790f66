use Rattle.std.proofs.Common.{rules, ap, sym, ◌∙◌, arith}
use Rattle.std.proofs.lemmas.List.{length-map}
use Rattle.strm_machine.specs.State.{Guest, State, sets_in}
use Rattle.strm_channels.specs.Guests.{guest_of}
use Rattle.strm_channels.proofs.GuestLemmas.{guest_in-seen}
use Rattle.strm_transmit.proofs.SetLemmas.{found_by}
use Rattle.strm_transmit.proofs.store.Store.first_ready.Goals as goal

pub returns-clause-exact : goal.returns-clause-exact
returns-clause-exact c =
    let guests = c.self.inside.guests.items in
    let x = c.index.result.now in
    let here = guest_in-seen guests c.args.guest x (omega (arith, rw (← c.self.view_is) at c.requires.there, length-map guests guest_of)) c.index.ensures in
    found_by _ c.args.self.now c.args.guest c.args.number x.sets c.poll.result (λ n b e. search rules)
    (sym (ap (λ (g : Guest). g.sets) here) ∙ ap (λ (s : State). sets_in s.guests c.args.guest) c.self.view_is)
    c.poll.ensures.some c.poll.ensures.none
