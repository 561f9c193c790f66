-- The store after a host end had its turn.
use Rattle.std.proofs.Common.{◌≡◌, ℕ, ◌<◌, Bool, true, false, cond, List, length, set, refl, sym, ap, ◌∙◌, subst, inl, inr}
use Rattle.std.proofs.lemmas.List.{length-set, get_or-set_same}
use Rattle.strm_machine.specs.State.{Guest, State, no_stream, guest_in, stream_at, producer_at, consumer_at, is_held}
use Rattle.strm_machine.specs.Hosting.{duty_among}
use Rattle.strm_machine.specs.Sides.{opposite, end_of}
use Rattle.strm_machine.specs.Soundness.{IsSound}
use Rattle.strm_machine.specs.declared.streams.Owner.{Owner}
use Rattle.strm_machine.specs.declared.streams.Owner.TheVariants.{Host, Gone}
use Rattle.strm_machine.specs.declared.streams.Duty.TheVariants.{Serves}
use Rattle.strm_machine.specs.declared.streams.Side.{Side}
use Rattle.strm_machine.specs.declared.streams.Side.TheVariants.{Writing, Reading}
use Rattle.strm_machine.specs.declared.streams.Stream.{Stream}
use Rattle.strm_machine.proofs.SoundLemmas.{type_of-same, IsSound-guests, IsSound-stream}
use Rattle.strm_buffers.specs.Tells.{WriterTells, ReaderTells, Tells}
use Rattle.strm_channels.specs.Guests.{guests_of}
use Rattle.strm_host_turns.specs.WriterTurns.{WriterScene, writer_scene}
use Rattle.strm_host_turns.specs.ReaderTurns.{ReaderScene, reader_scene}
use Rattle.strm_transmit.specs.Inside.{state_of, AreServed, HavePlaces, IsStore}
use Rattle.strm_transmit.specs.Places.{ArePlaces}
use Rattle.strm_transmit.specs.declared.store.Store.TheInside.{Inside}
use Rattle.strm_host_machine.specs.Does.{FitsWriter, FitsReader, Fits}
use Rattle.strm_transmit.proofs.ServedLemmas.{same_stream, same_host, not_unused, gone_no_host, serving_kept, reading_kept, duty_known, serves_only, keeps_readers, keeps_writers, writer_now, reader_now, AreServed-turned}
use Rattle.strm_transmit.proofs.KeptLemmas.{have_set, have_producer}
use Rattle.strm_transmit.proofs.SceneLemmas.{SceneKeeps}
use Rattle.strm_transmit.proofs.ReaderTurnLemmas.{TakingKeeps}
use Rattle.strm_machine.proofs.TurnLemmas.{GuestsKeep, all_kept}
use Rattle.strm_transmit.proofs.StoreLemmas.{kept_tables, Agrees, IsStore-counted, IsSound-same}
use Rattle.strm_transmit.specs.Telling.{member_of}
use Rattle.strm_transmit.proofs.ToldLemmas.{SameOrFree, SameMembers, members-sets, but-besides, besides-set, told-retold, IsHeld-set}
use Rattle.strm_machine.proofs.HeldLemmas.{IsHeld, IsHeld-same}
use Rattle.strm_machine.proofs.TableLemmas.{handles-same}
use Rattle.strm_transmit.specs.ReadyGuests.{Retold}
use Rattle.strm_transmit.proofs.ReadyGuestLemmas.{counted-retold}
use Rattle.strm_transmit.proofs.StoreLemmas.{as_many_guests}

-- each end of a stream has the owner that it had, or was and is held by no guest
abbrev KeepsOwners : Stream → Stream → Type 0
KeepsOwners old new = (side : Side) → SameOrFree (end_of side old).owner (end_of side new).owner

-- the ends of a stream whose host end, on this side, may be gone: no guest had it, and none has it
moves_held : (host : Side) (old new : Stream) (done : Bool) → (end_of host new).owner ≡ cond done Gone (end_of host old).owner → (end_of (opposite host) new).owner ≡ (end_of (opposite host) old).owner → is_held (end_of host old).owner ≡ false → KeepsOwners old new
moves_held host old new done leaves stays unheld = by host leaves stays unheld
  where
    gone_or : (done : Bool) (owner : Owner) → is_held owner ≡ false → is_held (cond done Gone owner) ≡ false
    gone_or true owner e = refl
    gone_or false owner e = e

    by : (host : Side) → (end_of host new).owner ≡ cond done Gone (end_of host old).owner → (end_of (opposite host) new).owner ≡ (end_of (opposite host) old).owner → is_held (end_of host old).owner ≡ false → KeepsOwners old new
    by Writing l s u Writing = inr (u, ap is_held l ∙ gone_or done _ u)
    by Writing l s u Reading = inl s
    by Reading l s u Writing = inl s
    by Reading l s u Reading = inr (u, ap is_held l ∙ gone_or done _ u)

-- guests whose handles are as they were
abbrev KeepsHandles : List Guest → List Guest → Type 0
KeepsHandles old new = (g : ℕ) → (guest_in new g).handles ≡ (guest_in old g).handles

-- one stream became another, and its ends were told again
module _ (old new : Inside) (s : ℕ) (after : Stream) (l : s < length old.streams.items) where
  -- the guests before
  abbrev before : List Guest
  before = guests_of old.guests.items

  -- the streams then
  abbrev more : List Stream
  more = set old.streams.items s after

  -- its ends are told, and counted again
  abbrev IsToldBy : List Guest → Type 0
  IsToldBy guests = Retold guests s after old.ready new.ready

  agrees_turned : (gs : List Guest) → guests_of new.guests.items ≡ gs → length gs ≡ length before → KeepsHandles before gs → SameMembers before gs
      → KeepsOwners (stream_at (state_of old) s) after → new.streams.items ≡ more
      → IsToldBy gs → IsStore old → Agrees new
  agrees_turned guests e many handles members owners streams retold i =
      let held : IsHeld guests more = IsHeld-same before guests more more handles (λ k side. refl) (IsHeld-set before old.streams.items s after l owners i.held) in
      record {
        held = rw (e, streams) held;
        told = rw (e, streams)
            (told-retold guests more s held old.ready.sets new.ready.sets after (get_or-set_same old.streams.items s after no_stream l)
            (but-besides before guests old.streams.items more s old.ready.sets members (besides-set old.streams.items s after) i.told) retold.sets);
        ready_counted = rw (e, streams) (counted-retold before guests guests old.streams.items s after old.ready new.ready many retold i.ready_counted);
      }

-- what guests keep where they are those of a turn
keeps_handles : {before guests after : List Guest} → GuestsKeep before after → guests ≡ after → (g : ℕ) → (guest_in guests g).handles ≡ (guest_in before g).handles
keeps_handles {before} {guests} {after} k e g = ap (λ (x : List Guest). (guest_in x g).handles) e ∙ handles-same before after g k.handles

keeps_sets : {before guests after : List Guest} → GuestsKeep before after → guests ≡ after → SameMembers before guests
keeps_sets {before} {guests} {after} k e g number handle = ap (λ (x : List Guest). member_of x g number handle) e ∙ members-sets before after k.sets g number handle

-- what a turn left of a scene
pub record TakesScene (old new : Inside) (s n : ℕ) (after : WriterScene) : Type 0 where
  pub tag : new.tag ≡ old.tag
  pub limits : new.limits ≡ old.limits
  pub contexts : new.contexts ≡ old.contexts
  pub counter : new.counter ≡ old.counter
  pub live_sets : new.live_sets ≡ old.live_sets
  pub bytes : new.bytes ≡ old.bytes
  pub counted : ArePlaces new.places new.streams.items
  pub guests : guests_of new.guests.items ≡ after.guests
  pub streams : new.streams.items ≡ set old.streams.items s after.stream
  pub producers : new.producers ≡ set old.producers n after.producer
  pub kept : new.kept ≡ old.kept
  pub consumers : new.consumers ≡ old.consumers
  pub retold : Retold (guests_of new.guests.items) s after.stream old.ready new.ready

-- the scene of a turn in a store
abbrev pub scene_of : Inside → ℕ → ℕ → WriterTells → WriterScene
scene_of old s n tells = writer_scene (guests_of old.guests.items) (stream_at (state_of old) s) (producer_at (state_of old) n) tells

module _ (old new : Inside) (s n : ℕ) (tells : WriterTells) (after : WriterScene) (l : s < length old.streams.items) (o : (stream_at (state_of old) s).writer.owner ≡ Host n) (k : SceneKeeps (scene_of old s n tells) after) (h : TakesScene old new s n after) (i : IsStore old) where
  serves : (producer_at (state_of old) n).duty ≡ Serves s
  serves = i.served.serves Writing n s o

  -- what is kept of it then
  now : duty_among Writing (set old.producers n after.producer) old.consumers n ≡ Serves s
  now =
      writer_now old.producers old.consumers n after.producer (serving_kept old.producers n s serves) ∙ k.duty ∙ serves

  only : (done : Bool) (m : ℕ) → after.stream.writer.owner ≡ cond done Gone (stream_at (state_of old) s).writer.owner → after.stream.writer.owner ≡ Host m → m ≡ n
  only true m e f = absurd (gone_no_host after.stream.writer.owner m e f)
  only false m e f = same_host m n after.stream.writer.owner f (e ∙ o)

  all_serve : (side : Side) (m : ℕ) → (end_of side after.stream).owner ≡ Host m → duty_among side (set old.producers n after.producer) old.consumers m ≡ Serves s
  all_serve Writing m e = rw (only k.stream.done m k.stream.leaves e) now
  all_serve Reading m e = i.served.serves Reading m s (sym k.stream.stays ∙ e)

  served : AreServed new.producers new.consumers new.streams.items
  served =
      rw (h.producers, h.consumers, h.streams)
      (AreServed-turned old.producers (set old.producers n after.producer) old.consumers old.consumers old.streams.items i.served Writing n
      (keeps_readers old.producers old.consumers n after.producer) s after.stream l all_serve
      (serves_only old.producers old.consumers old.streams.items i.served Writing n s serves)
      (λ t e. same_stream t s (duty_among Writing (set old.producers n after.producer) old.consumers n) e now))

  places : HavePlaces new.producers new.kept.items new.streams.items
  places =
      rw (h.producers, h.kept, h.streams)
      (have_producer old.producers old.kept.items (set old.streams.items s after.stream)
      (have_set old.producers old.kept.items old.streams.items i.kept s after.stream l k.stream.payload)
      n after.producer (serving_kept old.producers n s serves) (λ e. not_unused after.producer.duty s e (k.duty ∙ serves)) (λ t e. sym k.duty ∙ e))

  sound : IsSound (state_of new)
  sound =
      let type = type_of-same after.stream (stream_at (state_of old) s) k.stream.payload k.stream.kind in
      let streams = IsSound-stream (state_of old) s after.stream type k.stream.placed i.sound in
      let moved = record (state_of old) { streams = set old.streams.items s after.stream } in
      IsSound-same (record moved { guests = after.guests }) (state_of new) h.guests h.streams h.contexts (IsSound-guests moved after.guests k.guests streams)

  pub IsStore-scene : IsStore new
  IsStore-scene =
      IsStore-counted old new
      (kept_tables old new (record { limits = h.limits; counter = h.counter; live_sets = h.live_sets; bytes = h.bytes; guests = rw h.guests k.guests }) i)
      (record { places = h.counted; served = served; kept = places; few = rw (h.streams, length-set old.streams.items s after.stream) i.few_streams })
      sound (agrees_turned old new s after.stream l (guests_of new.guests.items) refl (ap length h.guests ∙ as_many_guests (guests_of old.guests.items) after.guests k.guests.handles) (keeps_handles k.guests h.guests) (keeps_sets k.guests h.guests) (moves_held Writing (stream_at (state_of old) s) after.stream k.stream.done k.stream.leaves k.stream.stays (ap is_held o)) h.streams h.retold i) i

-- ## The host writer that serves a stream

module _ (inside : Inside) (state : State) (n s : ℕ) (e : state_of inside ≡ state) (i : IsStore inside) (o : (stream_at state s).writer.owner ≡ Host n) where
  all_served : AreServed state.producers state.consumers state.streams
  all_served = subst (λ (x : State). AreServed x.producers x.consumers x.streams) e i.served

  -- it has one of the 64 places
  pub number_kept : n < 64
  number_kept = duty_known Writing state.producers state.consumers state.streams n s all_served (all_served.serves Writing n s o)

  -- and it is there, with its stream's kind and payload
  pub serving_fits : (tells : Tells) → Fits state tells → FitsWriter (stream_at state s) tells n
  serving_fits tells fits = fits.writers n s (all_served.serves Writing n s o)

-- ## The store after a host reader had its turn

-- what a turn left
pub record TakesTaking (old new : Inside) (s r : ℕ) (after : ReaderScene) : Type 0 where
  pub tag : new.tag ≡ old.tag
  pub limits : new.limits ≡ old.limits
  pub contexts : new.contexts ≡ old.contexts
  pub counter : new.counter ≡ old.counter
  pub live_sets : new.live_sets ≡ old.live_sets
  pub bytes : new.bytes ≡ old.bytes
  pub counted : ArePlaces new.places new.streams.items
  pub guests : guests_of new.guests.items ≡ after.guests
  pub streams : new.streams.items ≡ set old.streams.items s after.stream
  pub producers : new.producers ≡ old.producers
  pub kept : new.kept ≡ old.kept
  pub consumers : new.consumers ≡ set old.consumers r after.consumer
  pub retold : Retold (guests_of new.guests.items) s after.stream old.ready new.ready

-- what a turn touches in a store
abbrev pub taking_of : Inside → ℕ → ℕ → ReaderTells → ReaderScene
taking_of old s r tells = reader_scene (guests_of old.guests.items) (stream_at (state_of old) s) (consumer_at (state_of old) r) tells

module _ (old new : Inside) (s r : ℕ) (tells : ReaderTells) (after : ReaderScene) (l : s < length old.streams.items) (o : (stream_at (state_of old) s).reader.owner ≡ Host r) (k : TakingKeeps (taking_of old s r tells) after) (h : TakesTaking old new s r after) (i : IsStore old) where
  reads : (consumer_at (state_of old) r).duty ≡ Serves s
  reads = i.served.serves Reading r s o

  -- what is kept of it then
  reads_now : duty_among Reading old.producers (set old.consumers r after.consumer) r ≡ Serves s
  reads_now =
      reader_now old.producers old.consumers r after.consumer (reading_kept old.consumers r s reads) ∙ k.duty ∙ reads

  only_reader : (done : Bool) (m : ℕ) → after.stream.reader.owner ≡ cond done Gone (stream_at (state_of old) s).reader.owner → after.stream.reader.owner ≡ Host m → m ≡ r
  only_reader true m e f = absurd (gone_no_host after.stream.reader.owner m e f)
  only_reader false m e f = same_host m r after.stream.reader.owner f (e ∙ o)

  all_taken : (side : Side) (m : ℕ) → (end_of side after.stream).owner ≡ Host m → duty_among side old.producers (set old.consumers r after.consumer) m ≡ Serves s
  all_taken Writing m e = i.served.serves Writing m s (sym k.stream.stays ∙ e)
  all_taken Reading m e = rw (only_reader k.stream.done m k.stream.leaves e) reads_now

  taken_served : AreServed new.producers new.consumers new.streams.items
  taken_served =
      rw (h.producers, h.consumers, h.streams)
      (AreServed-turned old.producers old.producers old.consumers (set old.consumers r after.consumer) old.streams.items i.served Reading r
      (keeps_writers old.producers old.consumers r after.consumer) s after.stream l all_taken
      (serves_only old.producers old.consumers old.streams.items i.served Reading r s reads)
      (λ t e. same_stream t s (duty_among Reading old.producers (set old.consumers r after.consumer) r) e reads_now))

  places_then : HavePlaces new.producers new.kept.items new.streams.items
  places_then =
      rw (h.producers, h.kept, h.streams) (have_set old.producers old.kept.items old.streams.items i.kept s after.stream l k.stream.payload)

  taken_sound : IsSound (state_of new)
  taken_sound =
      let type = type_of-same after.stream (stream_at (state_of old) s) k.stream.payload k.stream.kind in
      let streams = IsSound-stream (state_of old) s after.stream type k.stream.placed i.sound in
      IsSound-same (record (state_of old) { streams = set old.streams.items s after.stream }) (state_of new) (h.guests ∙ k.guests) h.streams h.contexts streams

  same_guests : guests_of new.guests.items ≡ guests_of old.guests.items
  same_guests = h.guests ∙ k.guests

  pub IsStore-taking : IsStore new
  IsStore-taking =
      IsStore-counted old new
      (kept_tables old new (record { limits = h.limits; counter = h.counter; live_sets = h.live_sets; bytes = h.bytes; guests = rw same_guests (all_kept (guests_of old.guests.items)) }) i)
      (record { places = h.counted; served = taken_served; kept = places_then; few = rw (h.streams, length-set old.streams.items s after.stream) i.few_streams })
      taken_sound (agrees_turned old new s after.stream l (guests_of new.guests.items) refl (ap length same_guests) (λ g. ap (λ (x : _). (guest_in x g).handles) same_guests) (λ g number handle. ap (λ (x : _). member_of x g number handle) same_guests) (moves_held Reading (stream_at (state_of old) s) after.stream k.stream.done k.stream.leaves k.stream.stays (ap is_held o)) h.streams h.retold i) i

-- ## The host reader that serves a stream

module _ (inside : Inside) (state : State) (r s : ℕ) (e : state_of inside ≡ state) (i : IsStore inside) (o : (stream_at state s).reader.owner ≡ Host r) where
  reader_served : AreServed state.producers state.consumers state.streams
  reader_served = subst (λ (x : State). AreServed x.producers x.consumers x.streams) e i.served

  -- it has one of the 64 places
  pub reader_kept : r < 64
  reader_kept = duty_known Reading state.producers state.consumers state.streams r s reader_served (reader_served.serves Reading r s o)

  -- and it is there, with its stream's kind and payload
  pub reading_fits : (tells : Tells) → Fits state tells → FitsReader (stream_at state s) tells r
  reading_fits tells fits = fits.readers r s (reader_served.serves Reading r s o)
