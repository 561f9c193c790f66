use Rattle.std.proofs.Common.{◌≡◌, ◌<◌, List, length, set, refl, sym, ap, ◌∙◌, subst, arith}
use Rattle.std.proofs.lemmas.List.{length-map, length-set}
use Rattle.strm_machine.specs.State.{is_live}
use Rattle.strm_machine.specs.declared.streams.Stream.{Stream}
use Rattle.strm_machine.proofs.RefusalLemmas.{pair_fits}
use Rattle.strm_channels.specs.Guests.{guest_of, guests_of}
use Rattle.strm_host_turns.proofs.WriterTurnLemmas.{handed_on}
use Rattle.strm_places.proofs.AgainLemmas.{next-read_end}
use Rattle.strm_transmit.specs.Inside.{state_of}
use Rattle.strm_transmit.specs.ReadyGuests.{Retold}
use Rattle.strm_transmit.proofs.AgainLemmas.{MakesAgain, IsStore-again, performs-again, joined_again, pair_again, free_of, made_behind, made_not}
use Rattle.strm_transmit.proofs.PlaceLemmas.{next_gone, none_free}
use Rattle.strm_transmit.proofs.StoreLemmas.{set_at}
use Rattle.strm_transmit.proofs.store.Store.make_again.Goals as goal

pub insert_ends-requires-clause-writer : goal.insert_ends-requires-clause-writer
insert_ends-requires-clause-writer c =
    let fits = pair_fits (state_of c.self.inside) c.args.writer c.args.reader c.args.ty (rw (← c.self.view_is) at c.requires.may) in
    omega (arith, fits.writer_there, length-map c.self.inside.guests.items guest_of)

pub insert_ends-requires-clause-reader : goal.insert_ends-requires-clause-reader
insert_ends-requires-clause-reader c =
    let fits = pair_fits (state_of c.self.inside) c.args.writer c.args.reader c.args.ty (rw (← c.self.view_is) at c.requires.may) in
    omega (arith, fits.reader_there, length-map c.self.inside.guests.items guest_of)

pub insert_ends-requires-clause-read : goal.insert_ends-requires-clause-read
insert_ends-requires-clause-read c =
    (pair_fits (state_of c.self.inside) c.args.writer c.args.reader c.args.ty (rw (← c.self.view_is) at c.requires.may)).read

pub insert_ends-requires-clause-write : goal.insert_ends-requires-clause-write
insert_ends-requires-clause-write c =
    let old = c.self.inside in
    let fits = pair_fits (state_of old) c.args.writer c.args.reader c.args.ty (rw (← c.self.view_is) at c.requires.may) in
    subst (λ k. k < 268435456) (next-read_end (guests_of old.guests.items) c.args.reader c.args.writer c.args.ty (length old.streams.items) c.in-Some.stream) fits.write

pub insert_ends-requires-clause-below : goal.insert_ends-requires-clause-below
insert_ends-requires-clause-below c =
    let fits = pair_fits (state_of c.self.inside) c.args.writer c.args.reader c.args.ty (rw (← c.self.view_is) at c.requires.may) in
    omega (arith, fits.handles, c.self.invariant.limit, c.self.invariant.live)

pub reuse-requires-clause-few : goal.reuse-requires-clause-few
reuse-requires-clause-few c =
    (pair_fits (state_of c.self.inside) c.args.writer c.args.reader c.args.ty (rw (← c.self.view_is) at c.requires.may)).streams

pub reuse-requires-clause-live : goal.reuse-requires-clause-live
reuse-requires-clause-live c = ap is_live (c.stream_of-joined.ensures c.args.ty c.kind-kind.ensures c.payload-payload.ensures)

pub reuse-requires-clause-next : goal.reuse-requires-clause-next
reuse-requires-clause-next c = sym c.next.ensures ∙ c.in-Some.is

pub index-placed-requires : goal.index-placed-requires
index-placed-requires c =
    let old = c.self.inside in
    let n = c.in-Some.stream in
    let gone = next_gone old.places old.streams.items n (sym c.next.ensures ∙ c.in-Some.is) c.self.invariant.places in
    let same : length c.reuse.new.streams.items ≡ length old.streams.items = ap (λ (xs : List Stream). length xs) c.reuse.ensures.streams ∙ length-set old.streams.items n _ in
    omega (arith, gone.made, same, c.reuse.new.streams.ok)

pub invariant_of-self-2 : goal.invariant_of-self-2
invariant_of-self-2 c =
    let old = c.self.inside in
    let n = c.in-Some.stream in
    let next = sym c.next.ensures ∙ c.in-Some.is in
    let gone = next_gone old.places old.streams.items n next c.self.invariant.places in
    let joined = joined_again old n c.args.writer c.args.reader c.args.ty c.in_ok-numbers.numbers c.stream_of-joined.result c.in_ok-numbers.ensures.gives.numbers
    (c.stream_of-joined.ensures c.args.ty c.kind-kind.ensures c.payload-payload.ensures ∙ rw c.pair_of-pair.ensures refl) in
    let placed = set_at old.streams.items c.reuse.new.streams.items n c.stream_of-joined.result c.index-placed.result.now gone.made c.reuse.ensures.streams c.index-placed.ensures in
    IsStore-again old _ n c.args.writer c.args.reader c.args.ty
    (record {
      same = record { tag = refl; limits = refl; producers = refl; kept = refl; consumers = refl; contexts = refl; trapped = refl };
      counter = c.in_ok-numbers.ensures.gives.counter;
      live = c.in_ok-numbers.ensures.gives.live;
      live_sets = refl;
      bytes = refl;
      gone = gone;
      places = c.reuse.ensures.places;
      guests = c.in_ok-numbers.ensures.gives.guests;
      streams = c.reuse.ensures.streams ∙ ap (set old.streams.items n) joined;
      retold = subst (λ (s : Stream). Retold (guests_of c.insert_ends.new.guests.items) n s old.ready c.retell.new.self) (placed ∙ joined) c.retell.ensures;
    })
    (rw (← c.self.view_is) at c.requires.may) (rw (← c.self.view_is) at c.requires.unserved) c.self.invariant

pub returns-clause-meets : goal.returns-clause-meets
returns-clause-meets c =
    let old = c.self.inside in
    let n = c.in-Some.stream in
    let next = sym c.next.ensures ∙ c.in-Some.is in
    let gone = next_gone old.places old.streams.items n next c.self.invariant.places in
    let joined = joined_again old n c.args.writer c.args.reader c.args.ty c.in_ok-numbers.numbers c.stream_of-joined.result c.in_ok-numbers.ensures.gives.numbers
    (c.stream_of-joined.ensures c.args.ty c.kind-kind.ensures c.payload-payload.ensures ∙ rw c.pair_of-pair.ensures refl) in
    let placed = set_at old.streams.items c.reuse.new.streams.items n c.stream_of-joined.result c.index-placed.result.now gone.made c.reuse.ensures.streams c.index-placed.ensures in
    let made : MakesAgain old (record old { counter = c.insert_ends.new.counter; guests = c.insert_ends.new.guests; streams = c.reuse.new.streams; places = c.reuse.new.places; ready = c.retell.new.self }) n c.args.writer c.args.reader c.args.ty = record {
      same = record { tag = refl; limits = refl; producers = refl; kept = refl; consumers = refl; contexts = refl; trapped = refl };
      counter = c.in_ok-numbers.ensures.gives.counter;
      live = c.in_ok-numbers.ensures.gives.live;
      live_sets = refl;
      bytes = refl;
      gone = gone;
      places = c.reuse.ensures.places;
      guests = c.in_ok-numbers.ensures.gives.guests;
      streams = c.reuse.ensures.streams ∙ ap (set old.streams.items n) joined;
      retold = subst (λ (s : Stream). Retold (guests_of c.insert_ends.new.guests.items) n s old.ready c.retell.new.self) (placed ∙ joined) c.retell.ensures;
    } in
    rw (← c.self.view_is)
    (record {
      number = n;
      free = free_of old n gone;
      meets = performs-again old _ n c.args.writer c.args.reader c.args.ty made _
          (c.pair_of-pair.ensures ∙ pair_again old n c.args.writer c.args.reader c.args.ty c.in_ok-numbers.numbers c.in_ok-numbers.ensures.gives.numbers);
    })

pub returns-in_default-clause-meets : goal.returns-in_default-clause-meets
returns-in_default-clause-meets c = made_behind _ _ _ _ c.make.ensures

pub returns-in_default-clause-grows : goal.returns-in_default-clause-grows
returns-in_default-clause-grows c =
    λ more. rw (← c.self.view_is) (none_free c.self.inside.places c.self.inside.streams.items c.self.invariant.places (sym c.next.ensures ∙ c.in_default.is))

pub returns-clause-grows : goal.returns-clause-grows
returns-clause-grows c =
    λ more. absurd (omega (arith, rw (← c.self.view_is) at more, ap (λ (xs : List Stream). length xs) c.reuse.ensures.streams, length-set c.self.inside.streams.items c.in-Some.stream c.stream_of-joined.result))

pub returns-in_err-numbers-clause-meets : goal.returns-in_err-numbers-clause-meets
returns-in_err-numbers-clause-meets c =
    rw (handed_on c.from_residual.result c.from_residual.ensures.1, ← c.self.view_is)
    (made_not (state_of c.self.inside) _ c.args.writer c.args.reader c.args.ty (rw c.in_err-numbers.ensures.gives.err refl))
