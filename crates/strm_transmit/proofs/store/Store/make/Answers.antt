use Rattle.std.proofs.Common.{◌≡◌, subst, ◌<◌, List, ◌∷◌, [], ◌++◌, length, refl, sym, ap, ◌∙◌, arith}
use Rattle.std.proofs.lemmas.List.{length-map}
use Rattle.strm_machine.specs.State.{is_live, guest_in}
use Rattle.strm_machine.proofs.RefusalLemmas.{pair_fits}
use Rattle.strm_handles.specs.Handles.{next_index}
use Rattle.strm_machine.specs.Making.{with_read_end, with_ends}
use Rattle.strm_machine.specs.declared.streams.Stream.{Stream}
use Rattle.strm_channels.specs.Guests.{guest_of, guests_of}
use Rattle.strm_transmit.proofs.MakingLemmas.{MakesStream, IsStore-made, performs-made, numbers_of, joined_is, pair_is}
use Rattle.strm_transmit.specs.Inside.{state_of}
use Rattle.strm_transmit.specs.ReadyGuests.{Added}
use Rattle.strm_transmit.proofs.StoreLemmas.{IsStore-room}
use Rattle.strm_transmit.proofs.ReadyGuestLemmas.{same_counts, may_add, added_after}
use Rattle.strm_transmit.proofs.store.Store.make.Goals as goal

pub insert_ends-requires-clause-writer : goal.insert_ends-requires-clause-writer
insert_ends-requires-clause-writer c =
    let fits = pair_fits (state_of c.self.inside) c.args.writer c.args.reader c.args.ty (rw (← c.self.view_is) at c.requires) in
    omega (arith, fits.writer_there, length-map c.self.inside.guests.items guest_of)

pub insert_ends-requires-clause-reader : goal.insert_ends-requires-clause-reader
insert_ends-requires-clause-reader c =
    let fits = pair_fits (state_of c.self.inside) c.args.writer c.args.reader c.args.ty (rw (← c.self.view_is) at c.requires) in
    omega (arith, fits.reader_there, length-map c.self.inside.guests.items guest_of)

pub insert_ends-requires-clause-read : goal.insert_ends-requires-clause-read
insert_ends-requires-clause-read c =
    (pair_fits (state_of c.self.inside) c.args.writer c.args.reader c.args.ty (rw (← c.self.view_is) at c.requires)).read

pub insert_ends-requires-clause-write : goal.insert_ends-requires-clause-write
insert_ends-requires-clause-write c =
    let old = c.self.inside in
    let fits = pair_fits (state_of old) c.args.writer c.args.reader c.args.ty (rw (← c.self.view_is) at c.requires) in
    let number : c.len-stream.result ≡ length old.streams.items = omega (arith, c.len-stream.ensures, old.streams.ok) in
    subst (λ s. next_index (guest_in (with_read_end (guests_of old.guests.items) c.args.reader c.args.ty s) c.args.writer).handles < 268435456) (sym number) fits.write

pub insert_ends-requires-clause-below : goal.insert_ends-requires-clause-below
insert_ends-requires-clause-below c =
    let fits = pair_fits (state_of c.self.inside) c.args.writer c.args.reader c.args.ty (rw (← c.self.view_is) at c.requires) in
    omega (arith, fits.handles, c.self.invariant.limit, c.self.invariant.live)

pub append-requires-clause-few : goal.append-requires-clause-few
append-requires-clause-few c =
    let fits = pair_fits (state_of c.self.inside) c.args.writer c.args.reader c.args.ty (rw (← c.self.view_is) at c.requires) in
    omega (arith, fits.streams, ap (λ (xs : List Stream). length xs) c.in_ok-make_room.ensures.streams)

pub append-requires-clause-live : goal.append-requires-clause-live
append-requires-clause-live c = ap is_live (c.stream_of-joined.ensures c.args.ty c.kind-kind.ensures c.payload-payload.ensures)

pub invariant_of-self : goal.invariant_of-self
invariant_of-self c =
    IsStore-room c.self.inside _
    (record {
      same = record { tag = refl; limits = refl; producers = refl; kept = refl; consumers = refl; contexts = refl; trapped = refl };
      counter = refl;
      live_sets = refl;
      bytes = refl;
      guests = refl;
      ready = refl;
      ready_counts = same_counts c.self.inside.ready;
      streams = c.in_err-make_room.ensures.streams;
      places = c.in_err-make_room.ensures.places;
    })
    c.self.invariant

pub invariant_of-self-in_err-reserve : goal.invariant_of-self-in_err-reserve
invariant_of-self-in_err-reserve c =
    IsStore-room c.self.inside _
    (record {
      same = record { tag = refl; limits = refl; producers = refl; kept = refl; consumers = refl; contexts = refl; trapped = refl };
      counter = refl;
      live_sets = refl;
      bytes = refl;
      guests = refl;
      ready = c.in_err-reserve.ensures.sets;
      ready_counts = c.in_err-reserve.ensures.counts;
      streams = c.in_ok-make_room.ensures.streams;
      places = c.in_ok-make_room.ensures.places;
    })
    c.self.invariant

pub add_stream-requires : goal.add_stream-requires
add_stream-requires c =
    let old = c.self.inside in
    let fits = pair_fits (state_of old) c.args.writer c.args.reader c.args.ty (rw (← c.self.view_is) at c.requires) in
    may_add (guests_of old.guests.items) old.streams.items old.ready c.reserve.new.self c.self.invariant.ready_counted
    c.in_ok-reserve.ensures.counts c.in_ok-reserve.ensures.ok fits.streams

pub invariant_of-self-in_err-numbers : goal.invariant_of-self-in_err-numbers
invariant_of-self-in_err-numbers c =
    IsStore-room c.self.inside _
    (record {
      same = record { tag = refl; limits = refl; producers = refl; kept = refl; consumers = refl; contexts = refl; trapped = refl };
      counter = c.in_err-numbers.ensures.gives.kept;
      live_sets = refl;
      bytes = refl;
      guests = c.in_err-numbers.ensures.gives.err;
      ready = c.in_ok-reserve.ensures.sets;
      ready_counts = c.in_ok-reserve.ensures.counts;
      streams = c.in_ok-make_room.ensures.streams;
      places = c.in_ok-make_room.ensures.places;
    })
    c.self.invariant

pub invariant_of-self-2 : goal.invariant_of-self-2
invariant_of-self-2 c =
    let old = c.self.inside in
    let number : c.len-stream.result ≡ length old.streams.items = omega (arith, c.len-stream.ensures, old.streams.ok) in
    let joined = joined_is old c.args.writer c.args.reader c.args.ty c.in_ok-numbers.numbers c.stream_of-joined.result
    (c.in_ok-numbers.ensures.gives.numbers ∙ ap (numbers_of old c.args.writer c.args.reader c.args.ty) number)
    (c.stream_of-joined.ensures c.args.ty c.kind-kind.ensures c.payload-payload.ensures ∙ rw c.pair_of-pair.ensures refl) in
    let made : MakesStream c.self.inside (record c.self.inside { counter = c.insert_ends.new.counter; guests = c.insert_ends.new.guests; streams = c.append.new.streams; places = c.append.new.places; ready = c.add_stream.new.self }) c.args.writer c.args.reader c.args.ty = record {
      same = record { tag = refl; limits = refl; producers = refl; kept = refl; consumers = refl; contexts = refl; trapped = refl };
      counter = c.in_ok-numbers.ensures.gives.counter;
      live = c.in_ok-numbers.ensures.gives.live;
      places = c.append.ensures.places;
      live_sets = refl;
      bytes = refl;
      guests = c.in_ok-numbers.ensures.gives.guests ∙ ap (with_ends (guests_of old.guests.items) c.args.writer c.args.reader c.args.ty) number;
      streams = c.append.ensures.streams ∙ rw c.in_ok-make_room.ensures.streams (ap (λ (s : Stream). old.streams.items ++ s ∷ []) joined);
      added = added_after _ _ _ _ _ c.in_ok-reserve.ensures.sets c.in_ok-reserve.ensures.counts
          (subst (λ (s : Stream). Added (guests_of c.insert_ends.new.guests.items) s c.reserve.new.self c.add_stream.new.self) joined c.add_stream.ensures);
    } in
    IsStore-made old _ c.args.writer c.args.reader c.args.ty made (rw (← c.self.view_is) at c.requires) c.self.invariant

pub returns : goal.returns
returns c =
    let old = c.self.inside in
    let number : c.len-stream.result ≡ length old.streams.items = omega (arith, c.len-stream.ensures, old.streams.ok) in
    let joined = joined_is old c.args.writer c.args.reader c.args.ty c.in_ok-numbers.numbers c.stream_of-joined.result
    (c.in_ok-numbers.ensures.gives.numbers ∙ ap (numbers_of old c.args.writer c.args.reader c.args.ty) number)
    (c.stream_of-joined.ensures c.args.ty c.kind-kind.ensures c.payload-payload.ensures ∙ rw c.pair_of-pair.ensures refl) in
    let made : MakesStream c.self.inside (record c.self.inside { counter = c.insert_ends.new.counter; guests = c.insert_ends.new.guests; streams = c.append.new.streams; places = c.append.new.places; ready = c.add_stream.new.self }) c.args.writer c.args.reader c.args.ty = record {
      same = record { tag = refl; limits = refl; producers = refl; kept = refl; consumers = refl; contexts = refl; trapped = refl };
      counter = c.in_ok-numbers.ensures.gives.counter;
      live = c.in_ok-numbers.ensures.gives.live;
      places = c.append.ensures.places;
      live_sets = refl;
      bytes = refl;
      guests = c.in_ok-numbers.ensures.gives.guests ∙ ap (with_ends (guests_of old.guests.items) c.args.writer c.args.reader c.args.ty) number;
      streams = c.append.ensures.streams ∙ rw c.in_ok-make_room.ensures.streams (ap (λ (s : Stream). old.streams.items ++ s ∷ []) joined);
      added = added_after _ _ _ _ _ c.in_ok-reserve.ensures.sets c.in_ok-reserve.ensures.counts
          (subst (λ (s : Stream). Added (guests_of c.insert_ends.new.guests.items) s c.reserve.new.self c.add_stream.new.self) joined c.add_stream.ensures);
    } in
    rw (← c.self.view_is)
    (performs-made old _ c.args.writer c.args.reader c.args.ty _ made
    (c.pair_of-pair.ensures ∙ pair_is old c.args.writer c.args.reader c.args.ty c.len-stream.result c.in_ok-numbers.numbers number c.in_ok-numbers.ensures.gives.numbers))
