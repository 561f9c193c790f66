-- The store's counters after each change.
use Rattle.std.proofs.Common.{◌≡◌, ℕ, Bool, true, get_or, set, ◌+◌, ◌<◌, ◌≤◌, List, [], ◌∷◌, ◌++◌, length, map, sum_by, refl, sym, ap, ◌∙◌, subst, Some, None, take, drop, replicate, arith, length-append}
use Rattle.std.specs.Prelude.{sum, count_by, nat_lt, ◌*◌}
use Rattle.std.proofs.Math.Seq.{map-set_same}
use Rattle.std.proofs.lemmas.List.{map-append, length-map, length-set, get_or_default, get_or-set_same, set-set}
use Rattle.std.proofs.lemmas.List.Sums.{sum_by_push, sum-map}
use Rattle.std.proofs.lemmas.Simd.{map-map}
use Rattle.strm_machine.specs.Operating.{Operated}
use Rattle.strm_machine.specs.declared.streams.Producer.{Producer}
use Rattle.strm_machine.specs.declared.streams.Consumer.{Consumer}
use Rattle.strm_machine.specs.declared.streams.Stream.{Stream}
use Rattle.strm_handles.specs.Counters.{Counter, counted, uncounted}
use Rattle.strm_handles.specs.Handles.{Handles, no_handles, live_of}
use Rattle.strm_handles.proofs.HandleLemmas.{live_of-no_handles}
use Rattle.strm_machine.specs.State as machine
use Rattle.strm_memory.specs.Bytes.{put_at}
use Rattle.strm_memory.specs.Linear.{LinearMemory, untold, of_engine, lent_at, told_at, own_part}
use Rattle.strm_waitable_sets.specs.Sets.{Sets, no_sets, is_member}
use Rattle.strm_error_contexts.specs.Contexts.{len as contexts_there}
use Rattle.strm_machine.specs.State.{State, guest_in, no_guest, sets_in, no_stream, stream_at, memory_in, with_memory, with_sets, with_table, is_live, handles_in_use, sets_in_use, bytes_in_use, own_size, memory_limit}
use Rattle.strm_machine.specs.Bases.{base_in, is_lent_in, with_base, with_base_in}
use Rattle.strm_machine.proofs.BaseLemmas.{with_base-keeps}
use Rattle.std.specs.Ptr.{Ptr}
use Rattle.strm_machine.specs.Soundness.{IsSound, handles_of, own_sizes_of}
use Rattle.strm_machine.specs.Growth.{with_guest_at, grown, moved_to, MayGrow}
use Rattle.strm_machine.proofs.GrowthLemmas.{GuestAtFits, IsSound-grown, own-grown, handles-grown, sets-grown, begins_more}
use Rattle.strm_machine.specs.Tests.{are_places_full}
use Rattle.strm_machine.specs.Refusals.{refusal}
use Rattle.strm_machine.specs.Reactions.{Reaction, goes, performs}
use Rattle.strm_machine.specs.declared.acts.Making.TheVariants.{Guest}
use Rattle.strm_machine.specs.declared.acts.MemoryAct.TheVariants.{Poke}
use Rattle.strm_machine.specs.declared.acts.Act.TheVariants.{Make, OnMemory}
use Rattle.strm_machine.specs.declared.replies.Reply.TheVariants as replies
use Rattle.strm_machine.proofs.RefusalLemmas.{BytesFit, guest_fits, poke_fits}
use Rattle.strm_machine.proofs.SoundLemmas.{IsSound-guest, IsSound-guests, IsSound-turn}
use Rattle.strm_machine.proofs.BoundLemmas.{length-poked}
use Rattle.strm_machine.proofs.TurnLemmas.{GuestsKeep, TurnKeeps, all_kept, with_memory-keeps, sets_of}
use Rattle.strm_channels.specs.Guests.{guest_of, guests_of, with_linear, live_in, sets_among}
use Rattle.strm_transmit.specs.Inside.{state_of, AreServed, HavePlaces, IsStore}
use Rattle.strm_transmit.specs.Places.{ArePlaces}
use Rattle.strm_transmit.proofs.PlaceLemmas.{ArePlaces-kept}
use Rattle.strm_channels.specs.declared.guests.Guest as ours
use Rattle.strm_transmit.specs.declared.store.Store.TheInside.{Inside}
use Rattle.strm_transmit.proofs.ServedLemmas.{AreServed-set, same_owners}
use Rattle.strm_transmit.proofs.KeptLemmas.{have_set}
use Rattle.strm_machine.proofs.HeldLemmas.{StateIsHeld, IsHeld, IsHeld-same}
use Rattle.strm_machine.proofs.TableLemmas.{handles-same, handles-more, sets-more, owner-set_stays}
use Rattle.strm_transmit.specs.Telling.{AreTold}
use Rattle.strm_transmit.proofs.ToldLemmas.{members-sets, but-besides, besides-set, told-same, told-retold}
use Rattle.strm_transmit.specs.ReadyGuests.{AreReadyCounted, SameCounts, Retold}
use Rattle.strm_transmit.proofs.ReadyGuestLemmas.{AddsCounted, counted-alike, counted-kept, counted-guest, counted-retold}

-- fields that a call leaves as they were
pub record SameBut (old new : Inside) : Type 0 where
  pub tag : new.tag ≡ old.tag
  pub limits : new.limits ≡ old.limits
  pub producers : new.producers ≡ old.producers
  pub kept : new.kept ≡ old.kept
  pub consumers : new.consumers ≡ old.consumers
  pub contexts : new.contexts ≡ old.contexts
  pub trapped : new.is_trapped ≡ old.is_trapped

guests_of-push : (guests : List ours.Guest) (g : ours.Guest) → guests_of (guests ++ g ∷ []) ≡ guests_of guests ++ guest_of g ∷ []
guests_of-push guests g = map-append guest_of guests (g ∷ [])

-- ## One guest more

-- one guest more, with this memory of so many bytes; those that an engine lent do not count
pub record AddsGuest (old new : Inside) (g : ours.Guest) (linear : LinearMemory) (size : ℕ) : Type 0 where
  pub same : SameBut old new
  pub counter : new.counter ≡ old.counter
  pub streams : new.streams ≡ old.streams
  pub places : new.places ≡ old.places
  pub live_sets : new.live_sets ≡ old.live_sets
  pub guests : new.guests.items ≡ old.guests.items ++ g ∷ []
  pub bytes : new.bytes ≡ old.bytes + own_part linear.base size
  pub many : length linear.bytes ≡ size
  pub memory : g.memory ≡ linear
  pub handles : g.table.handles ≡ no_handles
  pub sets : g.sets ≡ no_sets
  pub ready : new.ready.sets ≡ old.ready.sets
  pub ready_guests : AddsCounted old.ready new.ready

state_of-guest : (old new : Inside) (g : ours.Guest) (memory : LinearMemory) (size : ℕ) → AddsGuest old new g memory size → state_of new ≡ record (state_of old) { guests = guests_of old.guests.items ++ guest_of g ∷ [] }
state_of-guest old new g memory size h =
    rw (h.same.tag, h.same.limits, h.same.producers, h.same.kept, h.same.consumers, h.same.contexts, h.same.trapped, h.streams, h.guests, guests_of-push old.guests.items g) refl

-- how many sets are there
abbrev pub how_many : Sets → ℕ
how_many sets = count_by (λ there. there) sets.there

-- the waitable sets of a guest
abbrev pub sets_held : machine.Guest → ℕ
sets_held g = how_many g.sets

pub IsStore-guest : (old new : Inside) (g : ours.Guest) (memory : LinearMemory) (size : ℕ) → AddsGuest old new g memory size → GuestAtFits (state_of old) size → bytes_in_use (state_of old) + own_part memory.base size ≤ memory_limit → IsStore old → IsStore new
IsStore-guest old new g memory size h fits room s =
    let many : length g.memory.bytes ≡ size = ap (λ (m : LinearMemory). length m.bytes) h.memory ∙ h.many in
    let own : own_size (guest_of g) ≡ own_part memory.base size = ap (λ (m : LinearMemory). own_part m.base (length m.bytes)) h.memory ∙ ap (own_part memory.base) h.many in
    let total = sum-map own_size (guests_of old.guests.items) in
    let sound = IsSound-guest (state_of old) (guest_of g) h.handles h.sets (omega (arith, many, fits.small)) (omega (arith, room, own, total)) s.sound in
    let after = state_of-guest old new g memory size h in
    let none : live_of g.table.handles ≡ 0 = rw h.handles live_of-no_handles in
    let live : handles_in_use (state_of old) ≡ handles_in_use (state_of new) = added _ _ _ (sum_by_push (λ k. live_of k.handles) (guests_of old.guests.items) (guest_of g)) none ∙ sym (ap handles_in_use after) in
    let no_set : sets_held (guest_of g) ≡ 0 = ap how_many h.sets in
    let sets : sets_in_use (state_of old) ≡ sets_in_use (state_of new) = added _ _ _ (sum_by_push sets_held (guests_of old.guests.items) (guest_of g)) no_set ∙ sym (ap sets_in_use after) in
    let bytes : bytes_in_use (state_of old) + own_size (guest_of g) ≡ bytes_in_use (state_of new) = sym (sum_by_push own_size (guests_of old.guests.items) (guest_of g)) ∙ sym (ap bytes_in_use after) in
    record {
      sound = rw after sound;
      held = subst StateIsHeld (sym after) (IsHeld-same (guests_of old.guests.items) (guests_of old.guests.items ++ guest_of g ∷ []) old.streams.items old.streams.items (λ k. handles-more (guests_of old.guests.items) (guest_of g) k h.handles) (λ k side. refl) s.held);
      told = rw (h.streams, h.ready, h.guests, guests_of-push old.guests.items g) (told-same (guests_of old.guests.items) (guests_of old.guests.items ++ guest_of g ∷ []) old.streams.items old.ready.sets (λ k number handle. ap (λ (x : Sets). is_member x number handle) (sets-more (guests_of old.guests.items) (guest_of g) k h.sets)) s.told);
      ready_counted = rw (h.streams, h.guests, guests_of-push old.guests.items g) (counted-guest (guests_of old.guests.items) (guest_of g) old.streams.items old.ready new.ready h.ready_guests s.ready_counted);
      limit = rw (h.counter, h.same.limits) s.limit;
      live = ap (λ (c : Counter). c.live) h.counter ∙ s.live ∙ live;
      within = rw h.counter s.within;
      places = rw (h.places, h.streams) s.places;
      served = rw (h.same.producers, h.same.consumers, h.streams) s.served;
      kept = rw (h.same.producers, h.same.kept, h.streams) s.kept;
      sets = h.live_sets ∙ s.sets ∙ sets;
      bytes = omega (arith, h.bytes, s.bytes, bytes, own);
      few_guests = rw h.guests (omega (arith, fits.count, length-map old.guests.items guest_of, length-append old.guests.items (g ∷ [])));
      few_streams = rw h.streams s.few_streams;
    }
  where
    added : (n m k : ℕ) → m ≡ n + k → k ≡ 0 → n ≡ m
    added n m k e z = omega arith

pub performs-guest : (old new : Inside) (g : ours.Guest) (size n : ℕ) → AddsGuest old new g (untold (replicate size 0)) size → n ≡ length old.guests.items → performs (state_of old) (Make (Guest size)) ≡ goes (replies.Number n) (state_of new)
unfolding performs
performs-guest old new g size n h e =
    rw (state_of-guest old new g (untold (replicate size 0)) size h, h.memory, h.handles, h.sets, e, length-map old.guests.items guest_of) refl

-- and one over bytes that an engine lent
abbrev pub added_at : State → List ℕ → Ptr → Reaction
added_at state bytes base = goes (replies.Number (length state.guests)) (with_guest_at state bytes base)

pub adds-guest_at : (old new : Inside) (g : ours.Guest) (bytes : List ℕ) (base : Ptr) (size n : ℕ) → AddsGuest old new g (of_engine bytes base) size → n ≡ length old.guests.items → added_at (state_of old) bytes base ≡ goes (replies.Number n) (state_of new)
adds-guest_at old new g bytes base size n h e =
    rw (state_of-guest old new g (of_engine bytes base) size h, h.memory, h.handles, h.sets, e, length-map old.guests.items guest_of) refl

-- the store's own bytes keep their limit
pub own_within : (state : State) → IsSound state → bytes_in_use state ≤ memory_limit
own_within state s = omega (arith, s.own, sum-map own_size state.guests)

-- of a memory of the store's own it is known too that it is small enough
pub own_fits : (state : State) (size : ℕ) → refusal state (Make (Guest size)) ≡ None → GuestAtFits state size
own_fits state size e =
    let fits = guest_fits state size e in
    record { small = omega (arith, fits.bytes); count = fits.count }

by_map : {X : Type 0} (f : machine.Guest → X) (g : X → ℕ) (xs : List machine.Guest) → sum_by g (map f xs) ≡ sum_by (λ x. g (f x)) xs
by_map f g xs = sym (sum-map g (map f xs)) ∙ ap sum (map-map g f xs) ∙ sum-map (λ x. g (f x)) xs

-- ## Guests with the memory lengths, the handles or the sets of others

pub same_handles : (old new : List machine.Guest) → handles_of new ≡ handles_of old → sum_by (λ (g : machine.Guest). live_of g.handles) new ≡ sum_by (λ (g : machine.Guest). live_of g.handles) old
same_handles old new e = sym (by_map (λ g. g.handles) live_of new) ∙ ap (sum_by live_of) e ∙ by_map (λ g. g.handles) live_of old

pub same_sets : (old new : List machine.Guest) → sets_of new ≡ sets_of old → sets_among new ≡ sets_among old
same_sets old new e = sym (by_map (λ g. g.sets) how_many new) ∙ ap (sum_by how_many) e ∙ by_map (λ g. g.sets) how_many old

-- one guest's table and sets are others, of which there are as many
pub sets-with_table : (guests : List machine.Guest) (g : ℕ) (handles : Handles) (sets : Sets) → how_many sets ≡ how_many (sets_in guests g) → sets_among (with_table guests g handles sets) ≡ sets_among guests
sets-with_table guests g handles sets e =
    let new : List machine.Guest = with_table guests g handles sets in
    sym (sum-map sets_held new)
    ∙ ap sum (map-set_same sets_held guests g (record (guest_in guests g) { handles = handles; sets = sets }) no_guest e)
    ∙ sum-map sets_held guests

pub same_bytes : (old new : List machine.Guest) → own_sizes_of new ≡ own_sizes_of old → sum_by own_size new ≡ sum_by own_size old
same_bytes old new e = sym (sum-map own_size new) ∙ ap sum e ∙ sum-map own_size old

pub same_count : (old new : List machine.Guest) → own_sizes_of new ≡ own_sizes_of old → length new ≡ length old
same_count old new e = sym (length-map new own_size) ∙ ap length e ∙ length-map old own_size

-- ## The parts of a store's invariant

-- the handles' counter agrees with the handles
pub record IsCounted (new : Inside) : Type 0 where
  pub limit : new.counter.limit ≡ new.limits.handles
  pub live : new.counter.live ≡ live_in (guests_of new.guests.items)
  pub within : new.counter.live ≤ new.counter.limit

module _ (old new : Inside) (limits : new.limits ≡ old.limits) where
  -- as many handles
  pub kept_counted : new.counter ≡ old.counter → live_in (guests_of new.guests.items) ≡ live_in (guests_of old.guests.items) → IsStore old → IsCounted new
  kept_counted c live i = record {
    limit = rw (c, limits) i.limit;
    live = ap (λ (k : Counter). k.live) c ∙ i.live ∙ sym live;
    within = rw c i.within;
  }

  -- one more, or one less, and counted
  pub more_counted : new.counter ≡ counted old.counter → live_in (guests_of new.guests.items) ≡ live_in (guests_of old.guests.items) + 1 → old.counter.live < old.counter.limit → IsStore old → IsCounted new
  more_counted c live below i = record {
    limit = rw (c, limits) i.limit;
    live = omega (arith, ap (λ (k : Counter). k.live) c, i.live, live);
    within = rw c (omega (arith, below));
  }

  pub less_counted : new.counter ≡ uncounted old.counter → live_in (guests_of new.guests.items) + 1 ≡ live_in (guests_of old.guests.items) → IsStore old → IsCounted new
  less_counted c live i = record {
    limit = rw (c, limits) i.limit;
    live = omega (arith, ap (λ (k : Counter). k.live) c, i.live, live);
    within = rw c (omega (arith, i.within));
  }

-- a handle more is below the limit
pub fits_below : (s : Inside) → IsStore s → live_in (guests_of s.guests.items) + 1 ≤ s.limits.handles → s.counter.live < s.counter.limit
fits_below s i h = omega (arith, h, i.limit, i.live)

-- handles and sets are counted, and of each memory as many bytes are the store's
pub record CountsTables (old new : Inside) : Type 0 where
  pub handles : IsCounted new
  pub sets : new.live_sets ≡ sets_in_use (state_of new)
  pub sizes : own_sizes_of (guests_of new.guests.items) ≡ own_sizes_of (guests_of old.guests.items)
  pub bytes : new.bytes ≡ old.bytes

-- guests with the handles, the sets and the memory lengths of those before
pub record KeepsGuests (old new : Inside) : Type 0 where
  pub limits : new.limits ≡ old.limits
  pub counter : new.counter ≡ old.counter
  pub live_sets : new.live_sets ≡ old.live_sets
  pub bytes : new.bytes ≡ old.bytes
  pub guests : GuestsKeep (guests_of old.guests.items) (guests_of new.guests.items)

pub kept_tables : (old new : Inside) → KeepsGuests old new → IsStore old → CountsTables old new
kept_tables old new k i = record {
  handles = kept_counted old new k.limits k.counter (same_handles (guests_of old.guests.items) (guests_of new.guests.items) k.guests.handles) i;
  sets = k.live_sets ∙ i.sets ∙ sym (same_sets (guests_of old.guests.items) (guests_of new.guests.items) k.guests.sets);
  sizes = k.guests.own;
  bytes = k.bytes;
}

-- streams are counted, and agree with host ends
pub record CountsStreams (new : Inside) : Type 0 where
  pub places : ArePlaces new.places new.streams.items
  pub served : AreServed new.producers new.consumers new.streams.items
  pub kept : HavePlaces new.producers new.kept.items new.streams.items
  pub few : length new.streams.items ≤ 4294967295

-- what is kept of host ends is what was
pub record SameHosts (old new : Inside) : Type 0 where
  pub producers : new.producers ≡ old.producers
  pub kept : new.kept ≡ old.kept
  pub consumers : new.consumers ≡ old.consumers

pub kept_streams : (old new : Inside) → new.streams ≡ old.streams → new.places ≡ old.places → SameHosts old new → IsStore old → CountsStreams new
kept_streams old new streams places same i = record {
  places = rw (places, streams) i.places;
  served = rw (same.producers, same.consumers, streams) i.served;
  kept = rw (same.producers, same.kept, streams) i.kept;
  few = rw streams i.few_streams;
}

-- handles and ends agree, and what is known of ready members and guests is so
pub record Agrees (new : Inside) : Type 0 where
  pub held : StateIsHeld (state_of new)
  pub told : AreTold (guests_of new.guests.items) new.streams.items new.ready.sets
  pub ready_counted : AreReadyCounted (guests_of new.guests.items) new.streams.items new.ready

-- guests with as many tables are as many
pub as_many_guests : (guests others : List machine.Guest) → handles_of others ≡ handles_of guests → length others ≡ length guests
as_many_guests guests others e =
    sym (length-map others (λ (g : machine.Guest). g.handles)) ∙ ap length e ∙ length-map guests (λ (g : machine.Guest). g.handles)

-- guests that keep their handles and sets, beside the same streams
agrees_alike : (old new : Inside) → handles_of (guests_of new.guests.items) ≡ handles_of (guests_of old.guests.items) → sets_of (guests_of new.guests.items) ≡ sets_of (guests_of old.guests.items) → new.streams.items ≡ old.streams.items → new.ready ≡ old.ready → IsStore old → Agrees new
agrees_alike old new handles sets streams ready i = record {
  held = rw streams (IsHeld-same (guests_of old.guests.items) (guests_of new.guests.items) old.streams.items old.streams.items (λ k. handles-same (guests_of old.guests.items) (guests_of new.guests.items) k handles) (λ k side. refl) i.held);
  told = rw (streams, ready) (told-same (guests_of old.guests.items) (guests_of new.guests.items) old.streams.items old.ready.sets (members-sets (guests_of old.guests.items) (guests_of new.guests.items) sets) i.told);
  ready_counted = rw (streams, ready) (counted-alike (guests_of old.guests.items) (guests_of new.guests.items) old.streams.items old.streams.items old.ready (as_many_guests (guests_of old.guests.items) (guests_of new.guests.items) handles) refl i.ready_counted);
}

pub agrees_still : (old new : Inside) → GuestsKeep (guests_of old.guests.items) (guests_of new.guests.items) → new.streams.items ≡ old.streams.items → new.ready ≡ old.ready → IsStore old → Agrees new
agrees_still old new guests streams ready i = agrees_alike old new guests.handles guests.sets streams ready i

-- the same where there is more room for what is known
pub agrees_room : (old new : Inside) → GuestsKeep (guests_of old.guests.items) (guests_of new.guests.items) → new.streams.items ≡ old.streams.items → new.ready.sets ≡ old.ready.sets → SameCounts old.ready new.ready → IsStore old → Agrees new
agrees_room old new guests streams sets counts i =
    let same = agrees_still old (record new { ready = old.ready }) guests streams refl i in
    record {
      held = same.held;
      told = rw sets same.told;
      ready_counted = counted-kept (guests_of new.guests.items) new.streams.items old.ready new.ready counts same.ready_counted;
    }

-- the parts are the whole
pub IsStore-counted : (old new : Inside) → CountsTables old new → CountsStreams new → IsSound (state_of new) → Agrees new → IsStore old → IsStore new
IsStore-counted old new tables streams sound agrees i =
    let count = same_count (guests_of old.guests.items) (guests_of new.guests.items) tables.sizes in
    record {
      sound = sound;
      held = agrees.held;
      told = agrees.told;
      ready_counted = agrees.ready_counted;
      limit = tables.handles.limit;
      live = tables.handles.live;
      within = tables.handles.within;
      places = streams.places;
      served = streams.served;
      kept = streams.kept;
      sets = tables.sets;
      bytes = tables.bytes ∙ i.bytes ∙ sym (same_bytes (guests_of old.guests.items) (guests_of new.guests.items) tables.sizes);
      few_guests = omega (arith, count, i.few_guests, length-map old.guests.items guest_of, length-map new.guests.items guest_of);
      few_streams = streams.few;
    }

-- whether a state is sound is seen of guests, streams and error contexts
pub IsSound-same : (a b : State) → b.guests ≡ a.guests → b.streams ≡ a.streams → b.contexts ≡ a.contexts → IsSound a → IsSound b
IsSound-same a b g s c h = record {
  named = rw (g, s) h.named;
  placed = rw (g, s) h.placed;
  small = rw g h.small;
  own = rw g h.own;
  sets = rw g h.sets;
  contexts = rw (g, c) h.contexts;
}

-- ## Room

-- there may be more room for streams and handles
pub record MakesRoom (old new : Inside) : Type 0 where
  pub same : SameBut old new
  pub counter : new.counter ≡ old.counter
  pub live_sets : new.live_sets ≡ old.live_sets
  pub bytes : new.bytes ≡ old.bytes
  pub guests : guests_of new.guests.items ≡ guests_of old.guests.items
  pub ready : new.ready.sets ≡ old.ready.sets
  pub ready_counts : SameCounts old.ready new.ready
  pub streams : new.streams.items ≡ old.streams.items
  pub places : ArePlaces new.places new.streams.items

pub IsStore-room : (old new : Inside) → MakesRoom old new → IsStore old → IsStore new
IsStore-room old new h i =
    let kept : GuestsKeep (guests_of old.guests.items) (guests_of new.guests.items) = rw h.guests (all_kept (guests_of old.guests.items)) in
    IsStore-counted old new
    (kept_tables old new (record { limits = h.same.limits; counter = h.counter; live_sets = h.live_sets; bytes = h.bytes; guests = kept }) i)
    (record {
      places = h.places;
      served = rw (h.same.producers, h.same.consumers, h.streams) i.served;
      kept = rw (h.same.producers, h.same.kept, h.streams) i.kept;
      few = rw h.streams i.few_streams;
    })
    (IsSound-same (state_of old) (state_of new) h.guests h.streams h.same.contexts i.sound)
    (agrees_room old new kept h.streams h.ready h.ready_counts i) i

-- ## Bytes

-- other guests, with nothing else changed
pub record PutsGuests (old new : Inside) (put : List machine.Guest) : Type 0 where
  pub same : SameBut old new
  pub counter : new.counter ≡ old.counter
  pub streams : new.streams ≡ old.streams
  pub places : new.places ≡ old.places
  pub live_sets : new.live_sets ≡ old.live_sets
  pub count : new.bytes ≡ old.bytes
  pub ready : new.ready ≡ old.ready
  pub guests : guests_of new.guests.items ≡ put

-- the state then
pub guests-state : (old new : Inside) (guests : List machine.Guest) → PutsGuests old new guests → state_of new ≡ record (state_of old) { guests = guests }
guests-state old new guests h =
    rw (h.same.tag, h.same.limits, h.same.producers, h.same.kept, h.same.consumers, h.same.contexts, h.same.trapped, h.streams, h.guests) refl

-- other bytes in the memory of a guest
abbrev pub PutsMemory : Inside → Inside → ℕ → List ℕ → Type 0
PutsMemory old new g memory = PutsGuests old new (with_memory (guests_of old.guests.items) g memory)

-- the state then
pub puts-state : (old new : Inside) (g : ℕ) (memory : List ℕ) → PutsMemory old new g memory → state_of new ≡ record (state_of old) { guests = with_memory (guests_of old.guests.items) g memory }
puts-state old new g memory h = guests-state old new _ h

-- somebody was told where the memory of a guest lies
abbrev pub TellsBase : Inside → Inside → ℕ → Ptr → Type 0
TellsBase old new g base = PutsGuests old new (with_base (guests_of old.guests.items) g base)

-- the state then
pub tells-state : (old new : Inside) (g : ℕ) (base : Ptr) → TellsBase old new g base → state_of new ≡ with_base_in (state_of old) g base
tells-state old new g base h = guests-state old new _ h

-- guests with the memory lengths, the handles and the sets of those before
IsStore-guests : (old new : Inside) (guests : List machine.Guest) → PutsGuests old new guests → GuestsKeep (guests_of old.guests.items) guests → IsStore old → IsStore new
IsStore-guests old new guests h keeps i =
    let kept : GuestsKeep (guests_of old.guests.items) (guests_of new.guests.items) = rw h.guests keeps in
    let state : state_of new ≡ record (state_of old) { guests = guests_of new.guests.items } = rw (h.same.tag, h.same.limits, h.same.producers, h.same.kept, h.same.consumers, h.same.contexts, h.same.trapped, h.streams) refl in
    IsStore-counted old new
    (kept_tables old new (record { limits = h.same.limits; counter = h.counter; live_sets = h.live_sets; bytes = h.count; guests = kept }) i)
    (kept_streams old new h.streams h.places (record { producers = h.same.producers; kept = h.same.kept; consumers = h.same.consumers }) i)
    (rw state (IsSound-guests (state_of old) (guests_of new.guests.items) kept i.sound))
    (agrees_still old new kept (ap (λ (v : _). v.items) h.streams) h.ready i) i

pub IsStore-base : (old new : Inside) (g : ℕ) (base : Ptr) → TellsBase old new g base → IsStore old → IsStore new
IsStore-base old new g base h i = IsStore-guests old new _ h (with_base-keeps (guests_of old.guests.items) g base) i

-- guests with the handles and the sets of others, of whose bytes as many are the store's
record AreAlike (were guests : List machine.Guest) : Type 0 where
  pub own : own_sizes_of guests ≡ own_sizes_of were
  pub handles : handles_of guests ≡ handles_of were
  pub sets : sets_of guests ≡ sets_of were

IsStore-alike : (old new : Inside) (guests : List machine.Guest) → PutsGuests old new guests → AreAlike (guests_of old.guests.items) guests → IsSound (record (state_of old) { guests = guests }) → IsStore old → IsStore new
IsStore-alike old new guests h alike sound i =
    let were : List machine.Guest = guests_of old.guests.items in
    let are : List machine.Guest = guests_of new.guests.items in
    let handles' : handles_of are ≡ handles_of were = ap handles_of h.guests ∙ alike.handles in
    let sets' : sets_of are ≡ sets_of were = ap sets_of h.guests ∙ alike.sets in
    IsStore-counted old new
    (record {
      handles = kept_counted old new h.same.limits h.counter (same_handles were are handles') i;
      sets = h.live_sets ∙ i.sets ∙ sym (same_sets were are sets');
      sizes = ap own_sizes_of h.guests ∙ alike.own;
      bytes = h.count;
    })
    (kept_streams old new h.streams h.places (record { producers = h.same.producers; kept = h.same.kept; consumers = h.same.consumers }) i)
    (subst IsSound (sym (guests-state old new guests h)) sound)
    (agrees_alike old new handles' sets' (ap (λ (v : _). v.items) h.streams) h.ready i) i

-- a memory that an engine lent has more bytes behind its end
abbrev pub GrowsMemory : Inside → Inside → ℕ → List ℕ → Type 0
GrowsMemory old new g more = PutsGuests old new (grown (state_of old) g more).guests

pub IsStore-grown : (old new : Inside) (g : ℕ) (more : List ℕ) → GrowsMemory old new g more → MayGrow (state_of old) g more → IsStore old → IsStore new
IsStore-grown old new g more h may i =
    let guests : List machine.Guest = guests_of old.guests.items in
    let memory : List ℕ = memory_in guests g ++ more in
    IsStore-alike old new (with_memory guests g memory) h
    (record { own = own-grown guests g memory may.lent; handles = handles-grown guests g memory; sets = sets-grown guests g memory })
    (IsSound-grown (state_of old) g more may i.sound) i

-- and lies there from then on
abbrev pub MovesMemory : Inside → Inside → ℕ → List ℕ → Ptr → Type 0
MovesMemory old new g more at = PutsGuests old new (moved_to (state_of old) g more at).guests

pub IsStore-moved : (old new : Inside) (g : ℕ) (more : List ℕ) (at : Ptr) → MovesMemory old new g more at → MayGrow (state_of old) g more → IsStore old → IsStore new
IsStore-moved old new g more at h may i =
    let guests : List machine.Guest = guests_of old.guests.items in
    let memory : List ℕ = memory_in guests g ++ more in
    let longer : List machine.Guest = with_memory guests g memory in
    let told = with_base-keeps longer g at in
    IsStore-alike old new (with_base longer g at) h
    (record { own = told.own ∙ own-grown guests g memory may.lent; handles = told.handles ∙ handles-grown guests g memory; sets = told.sets ∙ sets-grown guests g memory })
    (IsSound-guests (record (state_of old) { guests = longer }) (with_base longer g at) told (IsSound-grown (state_of old) g more may i.sound)) i

-- a memory that goes on in bytes which begin with all of its own
abbrev pub longer_by : List machine.Guest → ℕ → List ℕ → List ℕ
longer_by guests g bytes = memory_in guests g ++ drop (length (memory_in guests g)) bytes

abbrev pub BeginsSo : List machine.Guest → ℕ → List ℕ → Type 0
BeginsSo guests g bytes = take (length (memory_in guests g)) bytes ≡ memory_in guests g

pub with_linear-moved : (guests : List machine.Guest) (g : ℕ) (bytes : List ℕ) (at : Ptr) → g < length guests → is_lent_in guests g ≡ true → BeginsSo guests g bytes
    → with_linear guests g (of_engine bytes at) ≡ with_base (with_memory guests g (longer_by guests g bytes)) g at
with_linear-moved guests g bytes at l lent e =
    let memory : List ℕ = longer_by guests g bytes in
    let first : machine.Guest = record (guest_in guests g) { memory = memory } in
    let second : machine.Guest = record first { base = Some (lent_at at) } in
    let here : guest_in (with_memory guests g memory) g ≡ first = get_or-set_same guests g first no_guest l in
    sym (ap (λ (x : machine.Guest). set (set guests g first) g (record x { base = Some (told_at x.base at) })) here
    ∙ set-set guests g first (record first { base = Some (told_at (base_in guests g) at) })
    ∙ ap (λ (b : Bool). set guests g (record first { base = Some (record { at = at; is_lent = b }) })) lent
    ∙ ap (λ (b : List ℕ). set guests g (record second { memory = b })) (begins_more (memory_in guests g) bytes e))

-- bytes as many as before
pub IsStore-memory : (old new : Inside) (g : ℕ) (memory : List ℕ) → PutsMemory old new g memory → length memory ≡ length (memory_in (guests_of old.guests.items) g) → IsStore old → IsStore new
IsStore-memory old new g memory h size i = IsStore-guests old new _ h (with_memory-keeps (guests_of old.guests.items) g memory size) i

-- bytes put into a guest's memory
abbrev pub PutsBytes : Inside → Inside → ℕ → ℕ → List ℕ → Type 0
PutsBytes old new g address bytes = PutsMemory old new g (put_at (memory_in (guests_of old.guests.items) g) address bytes)

pub performs-poke : (old new : Inside) (g address : ℕ) (bytes : List ℕ) → PutsBytes old new g address bytes → performs (state_of old) (OnMemory g (Poke address bytes)) ≡ goes replies.Done (state_of new)
unfolding performs
performs-poke old new g address bytes h = ap (goes replies.Done) (sym (puts-state old new g _ h))

pub IsStore-put : (old new : Inside) (g address : ℕ) (bytes : List ℕ) → PutsBytes old new g address bytes → BytesFit (state_of old) g address (length bytes) → IsStore old → IsStore new
IsStore-put old new g address bytes h fits i =
    IsStore-memory old new g _ h (length-poked (memory_in (guests_of old.guests.items) g) address bytes fits.inside) i

pub IsStore-poke : (old new : Inside) (g address : ℕ) (bytes : List ℕ) → PutsBytes old new g address bytes → refusal (state_of old) (OnMemory g (Poke address bytes)) ≡ None → IsStore old → IsStore new
IsStore-poke old new g address bytes h e s =
    IsStore-put old new g address bytes h (poke_fits (state_of old) g address bytes e) s

-- ## One stream that is another, and guests

-- guests and one stream as a turn left them
pub record TakesTurn (old new : Inside) (s : ℕ) (t : Operated) : Type 0 where
  pub tag : new.tag ≡ old.tag
  pub limits : new.limits ≡ old.limits
  pub producers : new.producers ≡ old.producers
  pub kept : new.kept ≡ old.kept
  pub consumers : new.consumers ≡ old.consumers
  pub contexts : new.contexts ≡ old.contexts
  pub counter : new.counter ≡ old.counter
  pub places : new.places ≡ old.places
  pub live_sets : new.live_sets ≡ old.live_sets
  pub bytes : new.bytes ≡ old.bytes
  pub guests : guests_of new.guests.items ≡ t.guests
  pub streams : new.streams.items ≡ set old.streams.items s t.stream
  pub retold : Retold t.guests s t.stream old.ready new.ready

-- what is known of the ends of the stream is as the turn left them
agrees_turned : (old new : Inside) (s : ℕ) (t : Operated) → s < length old.streams.items → TurnKeeps (guests_of old.guests.items) (stream_at (state_of old) s) t → TakesTurn old new s t → IsStore old → Agrees new
agrees_turned old new s t l keeps h i =
    let before = guests_of old.guests.items in
    let held : IsHeld t.guests (set old.streams.items s t.stream) = IsHeld-same before t.guests old.streams.items (set old.streams.items s t.stream)
    (λ k. handles-same before t.guests k keeps.guests.handles)
    (λ k side. owner-set_stays old.streams.items s t.stream k side (record { writer = keeps.stream.writer; reader = keeps.stream.reader })) i.held in
    record {
      held = rw (h.guests, h.streams) held;
      told = rw (h.guests, h.streams)
          (told-retold t.guests (set old.streams.items s t.stream) s held old.ready.sets new.ready.sets t.stream (get_or-set_same old.streams.items s t.stream no_stream l)
          (but-besides before t.guests old.streams.items (set old.streams.items s t.stream) s old.ready.sets (members-sets before t.guests keeps.guests.sets) (besides-set old.streams.items s t.stream) i.told)
          h.retold.sets);
      ready_counted = rw (h.guests, h.streams) (counted-retold before t.guests t.guests old.streams.items s t.stream old.ready new.ready (as_many_guests before t.guests keeps.guests.handles) h.retold i.ready_counted);
    }

-- guests and one stream as a turn left them, which keeps handles, memory lengths, type and owners
pub IsStore-turn : (old new : Inside) (s : ℕ) (t : Operated) → s < length old.streams.items → TurnKeeps (guests_of old.guests.items) (stream_at (state_of old) s) t → TakesTurn old new s t → IsStore old → IsStore new
IsStore-turn old new s t l keeps h i =
    let before = stream_at (state_of old) s in
    let owners : is_live t.stream ≡ is_live before = rw (keeps.stream.writer, keeps.stream.reader) refl in
    IsStore-counted old new
    (kept_tables old new (record { limits = h.limits; counter = h.counter; live_sets = h.live_sets; bytes = h.bytes; guests = rw h.guests keeps.guests }) i)
    (record {
      places = rw (h.places, h.streams) (ArePlaces-kept old.streams.items s t.stream l old.places owners i.places);
      served = rw (h.producers, h.consumers, h.streams) (AreServed-set old.producers old.consumers old.streams.items i.served s t.stream l (same_owners before t.stream keeps.stream.writer keeps.stream.reader));
      kept = rw (h.producers, h.kept, h.streams) (have_set old.producers old.kept.items old.streams.items i.kept s t.stream l keeps.stream.payload);
      few = rw (h.streams, length-set old.streams.items s t.stream) i.few_streams;
    })
    (IsSound-same (record (state_of old) { guests = t.guests; streams = set old.streams.items s t.stream }) (state_of new) h.guests h.streams h.contexts (IsSound-turn (state_of old) s t keeps i.sound))
    (agrees_turned old new s t l keeps h i) i

-- what is kept of host ends alone is another
pub IsStore-kept : (s : Inside) (producers : List Producer) (consumers : List Consumer) → AreServed producers consumers s.streams.items → HavePlaces producers s.kept.items s.streams.items → IsStore s → IsStore (record s { producers = producers; consumers = consumers })
IsStore-kept s producers consumers h k i =
    let new = record s { producers = producers; consumers = consumers } in
    IsStore-counted s new
    (kept_tables s new (record { limits = refl; counter = refl; live_sets = refl; bytes = refl; guests = all_kept (guests_of s.guests.items) }) i)
    (record { places = i.places; served = h; kept = k; few = i.few_streams })
    (IsSound-same (state_of s) (state_of new) refl refl refl i.sound)
    (agrees_still s new (all_kept (guests_of s.guests.items)) refl refl i) i

pub stream_at-there : (s : Inside) (stream : ℕ) (x : Stream) → stream < length s.streams.items → x ≡ get_or s.streams.items stream x → stream_at (state_of s) stream ≡ x
stream_at-there s stream x l e = get_or_default s.streams.items stream no_stream x l ∙ sym e

-- the stream that an index reads once one was set there
pub set_at : (old : List Stream) (new : List Stream) (s : ℕ) (given x : Stream) → s < length old → new ≡ set old s given → x ≡ get_or new s x → x ≡ given
set_at old new s given x l e is = is ∙ ap (λ (xs : List Stream). get_or xs s x) e ∙ get_or-set_same old s given x l

-- handles stay where one guest's sets are others
pub live-with_sets : (guests : List machine.Guest) (g : ℕ) (sets : Sets) → live_in (with_sets guests g sets) ≡ live_in guests
live-with_sets guests g sets =
    same_handles guests (with_sets guests g sets) (map-set_same (λ (k : machine.Guest). k.handles) guests g (record (guest_in guests g) { sets = sets }) no_guest refl)

-- so many places are passed as the machine counts
pub places_passed : (s : Inside) (needed : ℕ) → IsStore s → nat_lt s.limits.places (3 * s.places.live + s.live_sets + contexts_there s.contexts + needed) ≡ are_places_full (state_of s) needed
places_passed s needed i = rw (i.places.live, i.sets) refl
