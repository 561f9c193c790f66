-- The store after a stream was made between two guests.
use Rattle.std.proofs.Common.{◌≡◌, ℕ, false, ◌+◌, List, [], ◌∷◌, ◌++◌, length, refl, sym, ap, ◌∙◌, subst, None, arith, length-append, length-set}
use Rattle.std.proofs.lemmas.List.{get_or_push}
use Rattle.strm_machine.specs.declared.streams.Side.{Side}
use Rattle.strm_machine.specs.declared.streams.Side.TheVariants.{Writing, Reading}
use Rattle.strm_machine.specs.declared.streams.Stream.{Stream}
use Rattle.strm_handles.specs.Counters.{Counter, counted}
use Rattle.strm_handles.specs.Handles.{next_index}
use Rattle.strm_machine.specs.State as machine
use Rattle.strm_machine.specs.State.{State, guest_in, sets_in, no_stream}
use Rattle.strm_machine.specs.Soundness.{IsSound, own_sizes_of}
use Rattle.strm_machine.specs.Sides.{end_of}
use Rattle.strm_machine.specs.Refusals.{refusal}
use Rattle.strm_machine.specs.Reactions.{goes, performs}
use Rattle.strm_machine.specs.declared.acts.Making.TheVariants.{Between}
use Rattle.strm_machine.specs.declared.acts.Act.TheVariants.{Make}
use Rattle.strm_machine.specs.declared.replies.Reply.TheVariants as replies
use Rattle.strm_machine.proofs.RefusalLemmas.{PairFits, pair_fits}
use Rattle.strm_machine.proofs.SoundLemmas.{IsSound-with_stream, own_sizes_of-with_handles}
use Rattle.strm_codes.specs.declared.codes.TransmitIndex.{TransmitIndex}
use Rattle.strm_machine.specs.Making.{with_read_end, with_ends, made_stream, made_pair, with_stream}
use Rattle.strm_machine.specs.declared.replies.Pair.{Pair}
use Rattle.strm_channels.specs.Guests.{guests_of, live_in, sets_among}
use Rattle.strm_transmit.specs.Inside.{state_of, IsStore}
use Rattle.strm_transmit.specs.Places.{ArePlaces}
use Rattle.strm_transmit.specs.declared.store.Store.TheInside.{Inside}
use Rattle.strm_transmit.proofs.ServedLemmas.{AreServed-push}
use Rattle.strm_transmit.proofs.KeptLemmas.{have_push}
use Rattle.strm_machine.proofs.HeldLemmas.{StateIsHeld, between_held}
use Rattle.strm_transmit.specs.Telling.{member_of}
use Rattle.strm_transmit.proofs.ToldLemmas.{SameMembers, members-with_table, but-besides, besides-push, told-retold}
use Rattle.strm_transmit.proofs.StoreLemmas.{SameBut, sets-with_table, Agrees, IsStore-counted}
use Rattle.strm_transmit.specs.ReadyGuests.{Added}
use Rattle.strm_transmit.proofs.ReadyGuestLemmas.{counted-added}

-- neither end is a host end's
pub nobodys : (stream : Stream) → machine.is_host stream.writer.owner ≡ false → machine.is_host stream.reader.owner ≡ false → (side : Side) → machine.is_host (end_of side stream).owner ≡ false
nobodys stream w r Writing = w
nobodys stream w r Reading = r

-- the stream that is made
abbrev pub stream_made : Inside → ℕ → ℕ → TransmitIndex → Stream
stream_made old writer reader ty =
    let pair = made_pair (state_of old) writer reader ty in made_stream ty writer pair.write reader pair.read

-- one stream more, with its two ends in their guests' tables
pub record MakesStream (old new : Inside) (writer reader : ℕ) (ty : TransmitIndex) : Type 0 where
  pub same : SameBut old new
  pub counter : new.counter ≡ counted (counted old.counter)
  pub live : live_in (guests_of new.guests.items) ≡ live_in (guests_of old.guests.items) + 2
  pub places : ArePlaces new.places new.streams.items
  pub live_sets : new.live_sets ≡ old.live_sets
  pub bytes : new.bytes ≡ old.bytes
  pub guests : guests_of new.guests.items ≡ with_ends (guests_of old.guests.items) writer reader ty (length old.streams.items)
  pub streams : new.streams.items ≡ old.streams.items ++ stream_made old writer reader ty ∷ []
  pub added : Added (guests_of new.guests.items) (stream_made old writer reader ty) old.ready new.ready

state_of-made : (old new : Inside) (writer reader : ℕ) (ty : TransmitIndex) → MakesStream old new writer reader ty → state_of new ≡ with_stream (state_of old) writer reader ty
unfolding with_stream
state_of-made old new writer reader ty h = rw (h.same.tag, h.same.limits, h.same.producers, h.same.kept, h.same.consumers, h.same.contexts, h.same.trapped, h.guests, h.streams) refl

pub performs-made : (old new : Inside) (writer reader : ℕ) (ty : TransmitIndex) (pair : Pair) → MakesStream old new writer reader ty → pair ≡ made_pair (state_of old) writer reader ty → performs (state_of old) (Make (Between writer reader ty)) ≡ goes (replies.Pair pair) (state_of new)
unfolding performs
performs-made old new writer reader ty pair h e =
    ap (λ (s : State). goes (replies.Pair (made_pair (state_of old) writer reader ty)) s) (sym (state_of-made old new writer reader ty h))
    ∙ ap (λ (p : Pair). goes (replies.Pair p) (state_of new)) (sym e)

pub own_sizes-made : (guests : List machine.Guest) (writer reader : ℕ) (ty : TransmitIndex) (s : ℕ) → own_sizes_of (with_ends guests writer reader ty s) ≡ own_sizes_of guests
own_sizes-made guests writer reader ty s =
    own_sizes_of-with_handles (with_read_end guests reader ty s) writer _ ∙ own_sizes_of-with_handles guests reader _

pub sets-made : (guests : List machine.Guest) (writer reader : ℕ) (ty : TransmitIndex) (s : ℕ) → sets_among (with_ends guests writer reader ty s) ≡ sets_among guests
sets-made guests writer reader ty s =
    let held = with_read_end guests reader ty s in
    sets-with_table held writer _ (sets_in held writer) refl ∙ sets-with_table guests reader _ (sets_in guests reader) refl

pub members-made : (guests : List machine.Guest) (writer reader : ℕ) (ty : TransmitIndex) (s : ℕ) → SameMembers guests (with_ends guests writer reader ty s)
members-made guests writer reader ty s k number handle =
    let held = with_read_end guests reader ty s in
    members-with_table held writer _ (sets_in held writer) (λ n q. refl) k number handle ∙ members-with_table guests reader _ (sets_in guests reader) (λ n q. refl) k number handle

-- what is known of the ends of the stream is as they were made
agrees_made : (old new : Inside) (writer reader : ℕ) (ty : TransmitIndex) → MakesStream old new writer reader ty → PairFits (state_of old) writer reader ty → IsStore old → Agrees new
agrees_made old new writer reader ty h fits i =
    let guests = guests_of old.guests.items in
    let stream = stream_made old writer reader ty in
    let s = length old.streams.items in
    let held : StateIsHeld (state_of new) = subst StateIsHeld (sym (state_of-made old new writer reader ty h)) (between_held (state_of old) writer reader ty fits i.held) in
    record {
      held = held;
      told = rw h.streams
          (told-retold (guests_of new.guests.items) (old.streams.items ++ stream ∷ []) s (rw h.streams at held) old.ready.sets new.ready.sets stream (get_or_push old.streams.items stream no_stream s refl)
          (but-besides guests (guests_of new.guests.items) old.streams.items (old.streams.items ++ stream ∷ []) s old.ready.sets (λ k number handle. ap (λ (x : _). member_of x k number handle) h.guests ∙ members-made guests writer reader ty s k number handle) (besides-push old.streams.items stream) i.told)
          h.added.sets);
      ready_counted = rw h.streams
          (counted-added guests (guests_of new.guests.items) (guests_of new.guests.items) old.streams.items stream old.ready new.ready
          (ap length h.guests ∙ length-set (with_read_end guests reader ty s) writer _ ∙ length-set guests reader _) h.added i.ready_counted);
    }

pub IsStore-made : (old new : Inside) (writer reader : ℕ) (ty : TransmitIndex) → MakesStream old new writer reader ty → refusal (state_of old) (Make (Between writer reader ty)) ≡ None → IsStore old → IsStore new
IsStore-made old new writer reader ty h e i =
    let fits = pair_fits (state_of old) writer reader ty e in
    let guests = guests_of old.guests.items in
    let stream = stream_made old writer reader ty in
    IsStore-counted old new
    (record {
      handles = record {
        limit = rw (h.counter, h.same.limits) i.limit;
        live = omega (arith, ap (λ (c : Counter). c.live) h.counter, i.live, h.live);
        within = rw h.counter (omega (arith, fits.handles, i.limit, i.live));
      };
      sets = h.live_sets ∙ i.sets ∙ sym (ap sets_among h.guests ∙ sets-made guests writer reader ty (length old.streams.items));
      sizes = ap own_sizes_of h.guests ∙ own_sizes-made guests writer reader ty (length old.streams.items);
      bytes = h.bytes;
    })
    (record {
      places = h.places;
      served = rw (h.same.producers, h.same.consumers, h.streams) (AreServed-push old.producers old.consumers old.streams.items i.served stream (nobodys stream refl refl));
      kept = rw (h.same.producers, h.same.kept, h.streams) (have_push old.producers old.kept.items old.streams.items i.kept old.consumers stream i.served);
      few = rw h.streams (omega (arith, fits.streams, length-append old.streams.items (stream ∷ [])));
    })
    (subst IsSound (sym (state_of-made old new writer reader ty h)) (IsSound-with_stream (state_of old) writer reader ty fits.read fits.write i.sound))
    (agrees_made old new writer reader ty h fits i) i

-- the numbers that the two handles got
abbrev pub numbers_of : Inside → ℕ → ℕ → TransmitIndex → ℕ → ℕ × ℕ
numbers_of old writer reader ty stream =
    (next_index (guest_in (guests_of old.guests.items) reader).handles, next_index (guest_in (with_read_end (guests_of old.guests.items) reader ty stream) writer).handles)

pub joined_is : (old : Inside) (writer reader : ℕ) (ty : TransmitIndex) (numbers : ℕ × ℕ) (joined : Stream) → numbers ≡ numbers_of old writer reader ty (length old.streams.items) → joined ≡ made_stream ty writer numbers.1 reader numbers.0 → joined ≡ stream_made old writer reader ty
joined_is old writer reader ty numbers joined n j =
    j ∙ ap (λ (k : ℕ × ℕ). made_stream ty writer k.1 reader k.0) n

abbrev pub as_pair : ℕ × ℕ → ℕ → Pair
as_pair numbers stream = record { read = numbers.0; write = numbers.1; stream = stream }

pub pair_is : (old : Inside) (writer reader : ℕ) (ty : TransmitIndex) (stream : ℕ) (numbers : ℕ × ℕ) → stream ≡ length old.streams.items → numbers ≡ numbers_of old writer reader ty stream → as_pair numbers stream ≡ made_pair (state_of old) writer reader ty
pair_is old writer reader ty stream numbers e n =
    ap (λ (k : ℕ × ℕ). as_pair k stream) (n ∙ ap (numbers_of old writer reader ty) e)
    ∙ ap (as_pair (numbers_of old writer reader ty (length old.streams.items))) e
