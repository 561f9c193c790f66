-- The store's fields as the machine's state, and what they keep: counters that agree with it. Ours.
use Rattle.std.specs.Prelude.{◌≡◌, ℕ, ◌<◌, ◌≤◌, ◌-◌, List, [], ◌++◌, length, map, replicate, slice_index_or}
use Rattle.strm_codes.specs.declared.payloads.Payload.{Payload}
use Rattle.strm_codes.specs.declared.payloads.Payload.TheVariants.{Nothing}
use Rattle.strm_buffers.specs.Listing.{Item, TypedItems}
use Rattle.strm_machine.specs.State.{State, host_limit, no_producer, no_stream, handles_in_use, sets_in_use, bytes_in_use}
use Rattle.strm_machine.specs.Hosting.{duty_among}
use Rattle.strm_machine.specs.Sides.{end_of}
use Rattle.strm_machine.specs.Soundness.{IsSound}
use Rattle.strm_machine.specs.declared.streams.Consumer.{Consumer}
use Rattle.strm_machine.specs.declared.streams.Duty.TheVariants.{Unused, Serves}
use Rattle.strm_machine.specs.declared.streams.Owner.TheVariants.{Host}
use Rattle.strm_machine.specs.declared.streams.Producer.{Producer}
use Rattle.strm_machine.specs.declared.streams.Side.{Side}
use Rattle.strm_machine.specs.declared.streams.Stream.{Stream}
use Rattle.strm_machine.proofs.HeldLemmas.{StateIsHeld}
use Rattle.strm_channels.specs.Guests.{guests_of}
use Rattle.strm_transmit.specs.Places.{ArePlaces}
use Rattle.strm_transmit.specs.Telling.{AreTold}
use Rattle.strm_transmit.specs.ReadyGuests.{AreReadyCounted}
use Rattle.strm_transmit.specs.declared.store.Store.TheInside.{Inside}

-- of host writers for which the store has no place yet nothing is kept
abbrev pub padded_items : List TypedItems → List (List Item)
padded_items kept = map (λ k. k.items) kept ++ replicate (host_limit - length kept) []

-- the machine's state, of which counters and room are no part
abbrev pub state_of : Inside → State
state_of s = record {
  tag = s.tag;
  limits = s.limits;
  guests = guests_of s.guests.items;
  streams = s.streams.items;
  producers = s.producers;
  kept = padded_items s.kept.items;
  consumers = s.consumers;
  contexts = s.contexts;
  trapped = s.is_trapped;
}

-- the end of a host end is of the one stream that it serves, and a stream that is served was made
pub record AreServed (producers : List Producer) (consumers : List Consumer) (streams : List Stream) : Type 0 where
  pub all : length producers ≡ host_limit
  pub all_readers : length consumers ≡ host_limit
  pub serves : (side : Side) (n s : ℕ) → (end_of side (slice_index_or streams s no_stream)).owner ≡ Host n →
      duty_among side producers consumers n ≡ Serves s
  pub made : (side : Side) (n s : ℕ) → duty_among side producers consumers n ≡ Serves s → s < length streams

-- what stands past the last of them
abbrev pub nothing_kept : TypedItems
nothing_kept = record { payload = Nothing; items = [] }

-- there is a place for items of host writer n, of this payload
pub record HasPlace (kept : List TypedItems) (n : ℕ) (payload : Payload) : Type 0 where
  pub there : n < length kept
  pub type : (slice_index_or kept n nothing_kept).payload ≡ payload

-- one that serves a stream has a place for items of its payload, and of one that was never used nothing is
-- kept
pub record HavePlaces (producers : List Producer) (kept : List TypedItems) (streams : List Stream) : Type 0 where
  pub few : length kept ≤ host_limit
  pub places : (n s : ℕ) → (slice_index_or producers n no_producer).duty ≡ Serves s →
      HasPlace kept n (slice_index_or streams s no_stream).payload
  pub unused : (n : ℕ) → (slice_index_or producers n no_producer).duty ≡ Unused →
      (slice_index_or kept n nothing_kept).items ≡ []

-- handles name streams and sets, and operations lie in memory; an end that a handle names is its guest's
-- under that handle; what is counted is what is there, and what is known of ready members and guests is so
pub record IsStore (s : Inside) : Type 0 where
  pub sound : IsSound (state_of s)
  pub held : StateIsHeld (state_of s)
  pub told : AreTold (guests_of s.guests.items) s.streams.items s.ready.sets
  pub ready_counted : AreReadyCounted (guests_of s.guests.items) s.streams.items s.ready
  pub limit : s.counter.limit ≡ s.limits.handles
  pub live : s.counter.live ≡ handles_in_use (state_of s)
  pub within : s.counter.live ≤ s.counter.limit
  pub places : ArePlaces s.places s.streams.items
  pub served : AreServed s.producers s.consumers s.streams.items
  pub kept : HavePlaces s.producers s.kept.items s.streams.items
  pub sets : s.live_sets ≡ sets_in_use (state_of s)
  pub bytes : s.bytes ≡ bytes_in_use (state_of s)
  pub few_guests : length s.guests.items ≤ 1048576
  pub few_streams : length s.streams.items ≤ 4294967295
