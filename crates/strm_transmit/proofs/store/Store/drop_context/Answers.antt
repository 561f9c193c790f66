use Rattle.std.proofs.Common.{ap, refl, arith}
use Rattle.std.proofs.lemmas.List.{length-map}
use Rattle.strm_handles.specs.Lookups.{error_context_rep_in}
use Rattle.strm_machine.specs.declared.acts.ContextAct.TheVariants.{Drop}
use Rattle.strm_machine.proofs.SoundStepLemmas.{on_context-sound}
use Rattle.strm_channels.specs.Guests.{guest_of}
use Rattle.strm_transmit.specs.Inside.{state_of}
use Rattle.strm_transmit.proofs.HeldStoreLemmas.{on_context-held}
use Rattle.strm_transmit.proofs.StoreLemmas.{less_counted}
use Rattle.strm_transmit.proofs.ContextLemmas.{dropped_names, IsStore-contexts}
use Rattle.strm_transmit.proofs.store.Store.drop_context.Goals as goal

pub remove_context-requires : goal.remove_context-requires
remove_context-requires c =
    let state = state_of c.self.inside in
    let number = rw (← c.self.view_is) at c.requires.context in
    let names = dropped_names state c.args.guest c.args.handle c.self.invariant.sound (rw (← c.self.view_is) at c.requires.may) in
    record {
      there = omega (arith, names.there, length-map c.self.inside.guests.items guest_of);
      named = rw number (ap error_context_rep_in names.entry);
      known = rw number names.known;
      live = omega (arith, c.self.invariant.live);
    }

pub invariant_of-self : goal.invariant_of-self
invariant_of-self c =
    let state = state_of c.self.inside in
    IsStore-contexts c.self.inside _ c.args.guest _ _
    (record { tag = refl; limits = refl; trapped = refl; streams = refl; producers = refl; kept = refl; consumers = refl; places = refl; live_sets = refl; bytes = refl; ready = refl })
    (record { guests = c.remove_context.ensures.frees.guests; others = c.remove_context.ensures.contexts })
    (less_counted c.self.inside _ refl c.remove_context.ensures.frees.counter c.remove_context.ensures.frees.live c.self.invariant)
    (rw (rw (← c.self.view_is) at c.requires.context) (on_context-sound state c.args.guest c.args.handle Drop c.self.invariant.sound (rw (← c.self.view_is) at c.requires.may)))
    (on_context-held state c.args.guest c.args.handle Drop c.self.invariant.sound c.self.invariant.held (rw (← c.self.view_is) at c.requires.may))
    c.self.invariant
