use Rattle.std.proofs.Common.{not, refl, ap, arith}
use Rattle.std.proofs.lemmas.List.{length-map}
use Rattle.strm_machine.specs.declared.acts.SetAct.TheVariants.{Join}
use Rattle.strm_machine.proofs.SetStepLemmas.{on_set_fits}
use Rattle.strm_channels.specs.Guests.{guest_of}
use Rattle.strm_transmit.specs.Inside.{state_of}
use Rattle.strm_transmit.proofs.SetLemmas.{IsStore-left, IsStore-joined, joined_made}
use Rattle.strm_transmit.proofs.ReadyGuestLemmas.{same_counts-then}
use Rattle.strm_transmit.proofs.store.Store.join_number.Goals as goal

pub leave_set-requires : goal.leave_set-requires
leave_set-requires c =
    let fits = on_set_fits (state_of c.self.inside) c.args.guest c.args.set (Join c.args.handle) (rw (← c.self.view_is) at c.requires.may) in
    record { there = omega (arith, fits.0, length-map c.self.inside.guests.items guest_of) }

pub invariant_of-self : goal.invariant_of-self
invariant_of-self c =
    IsStore-left c.self.inside _
    (record { same = record { tag = refl; limits = refl; producers = refl; kept = refl; consumers = refl; contexts = refl; trapped = refl }; streams = refl; places = refl; bytes = refl })
    (record { counter = refl; live_sets = refl; counted = c.leave.ensures.counts })
    c.self.invariant c.args.guest c.args.set c.args.handle (rw (← c.self.view_is) at c.requires.may)
    c.home_of-home.result c.if-set-eq0.true c.home_of-home.ensures c.leave.ensures.leaves c.leave_set.ensures.guests

pub join_set-requires-clause-there : goal.join_set-requires-clause-there
join_set-requires-clause-there c =
    let fits = on_set_fits (state_of c.self.inside) c.args.guest c.args.set (Join c.args.handle) (rw (← c.self.view_is) at c.requires.may) in
    omega (arith, fits.0, length-map c.self.inside.guests.items guest_of)

pub join_set-requires-clause-made : goal.join_set-requires-clause-made
join_set-requires-clause-made c =
    joined_made (state_of c.self.inside) c.args.guest c.args.set c.args.handle c.args.number c.self.invariant.sound
    (rw (← c.self.view_is) at c.requires.may) c.if-set-eq0.false (rw (← c.self.view_is) at c.requires.number)

pub home_of-home-requires : goal.home_of-home-requires
home_of-home-requires c =
    let fits = on_set_fits (state_of c.self.inside) c.args.guest c.args.set (Join c.args.handle) (rw (← c.self.view_is) at c.requires.may) in
    omega (arith, fits.0, length-map c.self.inside.guests.items guest_of)

pub has_member-is_empty-requires-clause-there : goal.has_member-is_empty-requires-clause-there
has_member-is_empty-requires-clause-there c =
    let fits = on_set_fits (state_of c.self.inside) c.args.guest c.args.set (Join c.args.handle) (rw (← c.self.view_is) at c.requires.may) in
    omega (arith, fits.0, length-map c.self.inside.guests.items guest_of)

pub has_member-is_empty-requires-clause-made : goal.has_member-is_empty-requires-clause-made
has_member-is_empty-requires-clause-made c =
    joined_made (state_of c.self.inside) c.args.guest c.args.set c.args.handle c.args.number c.self.invariant.sound
    (rw (← c.self.view_is) at c.requires.may) c.if-set-eq0.false (rw (← c.self.view_is) at c.requires.number)

pub is_ready-is_ready-requires : goal.is_ready-is_ready-requires
is_ready-is_ready-requires c =
    (on_set_fits c.args.self.now c.args.guest c.args.set (Join c.args.handle) c.requires.may).0

pub invariant_of-self-2 : goal.invariant_of-self-2
invariant_of-self-2 c =
    IsStore-joined c.self.inside _
    (record { same = record { tag = refl; limits = refl; producers = refl; kept = refl; consumers = refl; contexts = refl; trapped = refl }; streams = refl; places = refl; bytes = refl })
    (record { counter = refl; live_sets = refl; counted = same_counts-then _ _ _ c.leave-2.ensures.counts c.join.ensures.counts })
    c.self.invariant c.args.guest c.args.set c.args.handle (rw (← c.self.view_is) at c.requires.may)
    c.args.number (not c.has_member-is_empty.result) c.is_ready-is_ready.result c.if-set-eq0.false (rw (← c.self.view_is) at c.requires.number)
    c.in_ok-join_set.ensures.ok
    (record {
      home = c.home_of-home.result;
      is = c.home_of-home.ensures;
      between = c.leave-2.new.self.sets;
      leaves = c.leave-2.ensures.leaves;
      joins = record { told = c.join.ensures.told; others = c.join.ensures.others };
      empty = ap not c.has_member-is_empty.ensures;
      ready = rw (← c.self.view_is) at c.is_ready-is_ready.ensures;
    })
