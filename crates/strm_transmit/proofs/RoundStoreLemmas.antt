-- The store after a poll of a pipe's round: what it may index, and what it keeps.
use Rattle.std.proofs.Common.{◌≡◌, false, ℕ, ◌<◌, List, [], ◌∷◌, ◌++◌, length, drop, get_or, set, Result, refl, sym, ap, subst, ◌∙◌, inl, arith}
use Rattle.std.specs.Prelude.{nat_lt}
use Rattle.std.proofs.lemmas.Bool.Decides.{nat_tests}
use Rattle.std.proofs.lemmas.List.{length-set, get_or_default, get_or-set_same}
use Rattle.std.proofs.Math.Seq.{drop-length}
use Rattle.strm_codes.specs.declared.codes.TransmitKind.{TransmitKind}
use Rattle.strm_buffers.specs.Listing.{Item, TypedItems}
use Rattle.strm_buffers.specs.declared.answers.Answer.{Answer}
use Rattle.strm_buffers.specs.Tells.{WriterTells, ReaderTells, Tells, told_by, with_told, told_by_reader, with_told_reader}
use Rattle.strm_machine.specs.State.{State, no_producer, no_consumer, no_stream, producer_at, kept_at, consumer_at, stream_at, is_held, is_live}
use Rattle.strm_machine.specs.Hosting.{duty_among}
use Rattle.strm_machine.specs.Soundness.{sizes_of, StreamIsPlaced}
use Rattle.strm_machine.specs.declared.streams.Consumer.{Consumer}
use Rattle.strm_machine.specs.declared.streams.Duty.TheVariants.{Serves}
use Rattle.strm_machine.specs.declared.streams.End.{End}
use Rattle.strm_machine.specs.declared.streams.Producer.{Producer}
use Rattle.strm_machine.specs.declared.streams.Side.{Side}
use Rattle.strm_machine.specs.declared.streams.Side.TheVariants.{Writing, Reading}
use Rattle.strm_machine.specs.declared.streams.Owner.TheVariants.{Host}
use Rattle.strm_machine.specs.Sides.{end_of}
use Rattle.strm_machine.specs.declared.streams.Stream.{Stream}
use Rattle.strm_machine.proofs.SoundLemmas.{type_of-same, IsSound-stream, placed_at}
use Rattle.strm_machine.proofs.TableLemmas.{set-keeps}
use Rattle.strm_machine.proofs.TurnLemmas.{all_kept}
use Rattle.strm_channels.specs.Guests.{guests_of}
use Rattle.strm_host_machine.specs.Attaching.{has_items}
use Rattle.strm_host_machine.specs.Does.{FitsWriter, FitsReader}
use Rattle.strm_host_turns.specs.Piping.{fetching, Fetches, offering, Offers}
use Rattle.strm_host_turns.specs.declared.reader_turns.ReaderStops.{ReaderStops}
use Rattle.strm_host_turns.specs.declared.writer_turns.WriterStops.{WriterStops}
use Rattle.strm_transmit.specs.Inside.{state_of, padded_items, nothing_kept, HasPlace, AreServed, HavePlaces, IsStore}
use Rattle.strm_transmit.specs.Rounds.{IsPipe, FetchesStream, OffersStream}
use Rattle.strm_transmit.specs.declared.store.Store.TheInside.{Inside}
use Rattle.strm_transmit.proofs.PlaceLemmas.{ArePlaces-kept}
use Rattle.strm_transmit.proofs.KeptLemmas.{padded_items-at, padded_items-set, have_set, have_items}
use Rattle.strm_transmit.proofs.SceneStoreLemmas.{number_kept, serving_fits, reader_kept, reading_fits}
use Rattle.strm_transmit.proofs.ServedLemmas.{ComesNoHost, same_owners, not_unused, AreServed-set}
use Rattle.strm_transmit.proofs.StoreLemmas.{CountsTables, kept_tables, Agrees, agrees_still, IsStore-counted, IsSound-same}
use Rattle.strm_transmit.proofs.ToldLemmas.{but-besides, besides-set, told-unheld, IsHeld-set}
use Rattle.strm_machine.proofs.HeldLemmas.{IsHeld}
use Rattle.strm_transmit.proofs.ReadyGuestLemmas.{counted-alike, ready_by-unheld, ready_by-put}

-- ## What is held

held_by_kept : (xs ys : List Item) (m : ℕ) → m ≡ length xs → 0 < m → nat_lt 0 m ≡ has_items (xs ++ ys)
held_by_kept [] ys m e f = absurd (omega (arith, e, f))
held_by_kept (x ∷ xs) ys m e f = grind (arith, nat_tests)

-- what a place has
entry_at : (kept : List TypedItems) (n : ℕ) (x : TypedItems) → n < length kept → x ≡ get_or kept n x → x ≡ get_or kept n nothing_kept
entry_at kept n x l e = e ∙ sym (get_or_default kept n nothing_kept x l)

pub entry_type : (kept : List TypedItems) (n : ℕ) (x : TypedItems) → n < length kept → x ≡ get_or kept n x → x.payload ≡ (get_or kept n nothing_kept).payload
entry_type kept n x l e = ap (λ (k : TypedItems). k.payload) (entry_at kept n x l e)

-- a place is emptied
pub given_up : (inside : Inside) (state : State) (n : ℕ) (x y : TypedItems) → state_of inside ≡ state → n < length inside.kept.items → y.items ≡ drop (length x.items) x.items
    → record (state_of inside) { kept = padded_items (set inside.kept.items n y) } ≡ record state { kept = set state.kept n [] }
given_up inside state n x y e l d =
    ap (λ ks. record (state_of inside) { kept = ks }) (padded_items-set inside.kept.items n y l ∙ ap (set (padded_items inside.kept.items) n) (d ∙ drop-length x.items))
    ∙ ap (λ (v : State). record v { kept = set v.kept n [] }) e

-- what comes of a fetch
abbrev pub Fetched : Type 0
Fetched = Result (Unit {0}) WriterStops

-- ## A pipe of a store

module _ (inside : Inside) (state : State) (tells : Tells) (s n r : ℕ) (e : state_of inside ≡ state) (i : IsStore inside) (p : IsPipe state tells s n r) where
  -- its ends have places
  pub writer_known : n < 64
  writer_known = number_kept inside state n s e i p.writer

  pub reader_known : r < 64
  reader_known = reader_kept inside state r s e i p.reader

  pub writer_fits : FitsWriter (stream_at state s) tells n
  writer_fits = serving_fits inside state n s e i p.writer tells p.fits

  pub reader_fits : FitsReader (stream_at state s) tells r
  reader_fits = reading_fits inside state r s e i p.reader tells p.fits

  pub serves : (producer_at (state_of inside) n).duty ≡ Serves s
  serves = i.served.serves Writing n s (ap (λ (x : State). (stream_at x s).writer.owner) e ∙ p.writer)

  pub place : HasPlace inside.kept.items n (stream_at state s).payload
  place = subst (λ (x : State). HasPlace inside.kept.items n (stream_at x s).payload) e (i.kept.places n s serves)

  pub entry_there : n < inside.kept.len
  entry_there = omega (arith, place.there, inside.kept.ok)

  -- what is kept is what its place has
  module _ (x : TypedItems) (is : x ≡ get_or inside.kept.items n x) where
    entry : x ≡ get_or inside.kept.items n nothing_kept
    entry = entry_at inside.kept.items n x place.there is

    pub entry_items : x.items ≡ kept_at state n
    entry_items = ap (λ (k : TypedItems). k.items) entry ∙ sym (padded_items-at inside.kept.items n) ∙ ap (λ (v : State). kept_at v n) e

    pub entry_payload : x.payload ≡ (stream_at state s).payload
    entry_payload = ap (λ (k : TypedItems). k.payload) entry ∙ place.type

    pub held_then : (m : ℕ) (ys : List Item) → m ≡ length x.items → 0 < m → nat_lt 0 m ≡ has_items (kept_at state n ++ ys)
    held_then m ys c f = held_by_kept (kept_at state n) ys m (c ∙ ap length entry_items) f

  -- ## By what the calls say

  -- a fetch, of what its place has
  module _ (x : TypedItems) (is : x ≡ get_or inside.kept.items n x) where
    -- what a fetch left: what is kept of the writer and of its items, and what it tells
    pub record FetchLeft : Type 0 where
      pub producer : Producer
      pub items : TypedItems
      pub writer : WriterTells

    -- what it did to what it touches, a writer's kind being this
    abbrev pub FetchedFrom : TransmitKind → Fetched → FetchLeft → Type 0
    FetchedFrom kind result left =
        Fetches result kind (fetching (producer_at (state_of inside) n) x.items (told_by tells n)) (fetching left.producer left.items.items left.writer)

    -- the state that it left
    abbrev pub fetch_left : FetchLeft → State
    fetch_left left = record (state_of inside) { producers = set inside.producers n left.producer; kept = padded_items (set inside.kept.items n left.items) }

    pub fetches_in : (kind : TransmitKind) → kind ≡ (stream_at state s).kind → (result : Fetched) (left : FetchLeft) → FetchedFrom kind result left
        → (new : State) → new ≡ fetch_left left → (told : Tells) → told ≡ with_told tells n left.writer → FetchesStream state new tells told s n result
    fetches_in kind k result left f new m told t =
        let q = left.producer in
        let y = left.items in
        let w = left.writer in
        record {
          after = fetching q y.items w;
          fetches = subst (λ (v : State). Fetches result (stream_at state s).kind (fetching (producer_at v n) (kept_at state n) (told_by tells n)) (fetching q y.items w)) e
              (subst (λ a. Fetches result a (fetching (producer_at (state_of inside) n) (kept_at state n) (told_by tells n)) (fetching q y.items w)) k
              (subst (λ xs. Fetches result kind (fetching (producer_at (state_of inside) n) xs (told_by tells n)) (fetching q y.items w)) (entry_items x is) f));
          state = m
              ∙ ap (λ ks. record (state_of inside) { producers = set inside.producers n q; kept = ks }) (padded_items-set inside.kept.items n y place.there)
              ∙ ap (λ (v : State). record v { producers = set v.producers n q; kept = set v.kept n y.items }) e;
          ends = t;
        }

    -- what an offer left: the stream, what is kept of the reader and of the items, and what both ends tell
    pub record OfferLeft : Type 0 where
      pub stream : Stream
      pub consumer : Consumer
      pub items : TypedItems
      pub writer : WriterTells
      pub reader : ReaderTells

    -- what it did to what it touches
    abbrev pub OfferedFrom : Stream → Result Answer ReaderStops → OfferLeft → Type 0
    OfferedFrom v result left =
        Offers result (offering v (consumer_at (state_of inside) r) x.items (told_by tells n) (told_by_reader tells r))
        (offering left.stream left.consumer left.items.items left.writer left.reader)

    -- the state that it left
    abbrev pub offer_left : OfferLeft → State
    offer_left left = record (state_of inside) {
      streams = set inside.streams.items s left.stream;
      producers = set inside.producers n (record (producer_at (state_of inside) n) { holding = false });
      kept = padded_items (set inside.kept.items n left.items);
      consumers = set inside.consumers r left.consumer;
    }

    -- and what all host ends tell
    abbrev pub offer_told : OfferLeft → Tells
    offer_told left = with_told_reader (with_told tells n left.writer) r left.reader

    pub offers_in : (v : Stream) → v ≡ get_or inside.streams.items s v → (result : Result Answer ReaderStops) (left : OfferLeft) → OfferedFrom v result left
        → (new : State) → new ≡ offer_left left → (told : Tells) → told ≡ offer_told left → OffersStream state new tells told s n r result
    offers_in v there result left f new m told ends =
        let after = left.stream in
        let c = left.consumer in
        let y = left.items in
        let w = left.writer in
        let t = left.reader in
        let made = subst (λ (z : State). s < length z.streams) (sym e) p.made in
        let here : stream_at (state_of inside) s ≡ v = get_or_default inside.streams.items s no_stream v made ∙ sym there in
        record {
          after = offering after c y.items w t;
          offers = subst (λ (z : State). Offers result (offering (stream_at z s) (consumer_at z r) (kept_at state n) (told_by tells n) (told_by_reader tells r)) (offering after c y.items w t)) e
              (subst (λ z. Offers result (offering z (consumer_at (state_of inside) r) (kept_at state n) (told_by tells n) (told_by_reader tells r)) (offering after c y.items w t)) (sym here)
              (subst (λ xs. Offers result (offering v (consumer_at (state_of inside) r) xs (told_by tells n) (told_by_reader tells r)) (offering after c y.items w t)) (entry_items x is) f));
          state = m
              ∙ ap (λ ks. record (state_of inside) { streams = set inside.streams.items s after; producers = set inside.producers n (record (producer_at (state_of inside) n) { holding = false }); kept = ks; consumers = set inside.consumers r c }) (padded_items-set inside.kept.items n y place.there)
              ∙ ap (λ (z : State). record z { streams = set z.streams s after; producers = set z.producers n (record (producer_at z n) { holding = false }); kept = set z.kept n y.items; consumers = set z.consumers r c }) e;
          ends = ends;
        }

-- ## What the store keeps

-- other items of the same payload are kept of host writer n, and duties stay
pub record LeavesItems (old new : Inside) (n : ℕ) (x : TypedItems) : Type 0 where
  pub limits : new.limits ≡ old.limits
  pub contexts : new.contexts ≡ old.contexts
  pub counter : new.counter ≡ old.counter
  pub guests : new.guests ≡ old.guests
  pub live_sets : new.live_sets ≡ old.live_sets
  pub bytes : new.bytes ≡ old.bytes
  pub count : length new.producers ≡ length old.producers
  pub duties : (m : ℕ) → (get_or new.producers m no_producer).duty ≡ (get_or old.producers m no_producer).duty
  pub count_readers : length new.consumers ≡ length old.consumers
  pub reader_duties : (m : ℕ) → (get_or new.consumers m no_consumer).duty ≡ (get_or old.consumers m no_consumer).duty
  pub kept : new.kept.items ≡ set old.kept.items n x
  pub payload : x.payload ≡ (get_or old.kept.items n nothing_kept).payload
  pub ready : new.ready ≡ old.ready

-- no guest has an end that a host end has
pub hosts_held : (stream : Stream) (n r : ℕ) → stream.writer.owner ≡ Host n → stream.reader.owner ≡ Host r → (side : Side) → is_held (end_of side stream).owner ≡ false
hosts_held stream n r writer reader Writing = ap is_held writer
hosts_held stream n r writer reader Reading = ap is_held reader

-- one stream is another of the same type, with the same ends
pub record SameEnds (before after : Stream) : Type 0 where
  pub kind : after.kind ≡ before.kind
  pub payload : after.payload ≡ before.payload
  pub writer : after.writer ≡ before.writer
  pub reader : after.reader ≡ before.reader

module _ (old new : Inside) (n s : ℕ) (x : TypedItems) (h : LeavesItems old new n x) (d : (producer_at (state_of old) n).duty ≡ Serves s) (i : IsStore old) where
  pub place_there : n < old.kept.len
  place_there = omega (arith, (i.kept.places n s d).there, old.kept.ok)

  duty_same : (side : Side) (m : ℕ) → duty_among side new.producers new.consumers m ≡ duty_among side old.producers old.consumers m
  duty_same Writing m = h.duties m
  duty_same Reading m = h.reader_duties m

  served : AreServed new.producers new.consumers old.streams.items
  served = record {
    all = h.count ∙ i.served.all;
    all_readers = h.count_readers ∙ i.served.all_readers;
    serves = λ side m t o. duty_same side m ∙ i.served.serves side m t o;
    made = λ side m t e. i.served.made side m t (sym (duty_same side m) ∙ e);
  }

  places : HavePlaces new.producers new.kept.items old.streams.items
  places =
      let k = have_items old.producers old.kept.items old.streams.items i.kept n x (i.kept.places n s d).there (λ e. not_unused (producer_at (state_of old) n).duty s e d) h.payload in
      rw h.kept
      (record {
        few = k.few;
        places = λ m t e. k.places m t (sym (h.duties m) ∙ e);
        unused = λ m e. k.unused m (sym (h.duties m) ∙ e);
      })

  tables : CountsTables old new
  tables = kept_tables old new (record { limits = h.limits; counter = h.counter; live_sets = h.live_sets; bytes = h.bytes; guests = rw h.guests (all_kept (guests_of old.guests.items)) }) i

  -- the streams are as they were
  pub IsStore-items : new.streams ≡ old.streams → new.places ≡ old.places → IsStore new
  IsStore-items streams same =
      IsStore-counted old new tables
      (record { places = rw (same, streams) i.places; served = rw streams served; kept = rw streams places; few = rw streams i.few_streams })
      (IsSound-same (state_of old) (state_of new) (ap (λ (g : _). guests_of g.items) h.guests) (ap (λ (v : _). v.items) streams) h.contexts i.sound)
      (agrees_still old new (rw h.guests (all_kept (guests_of old.guests.items))) (ap (λ (v : _). v.items) streams) h.ready i) i

  -- the stream is another
  module _ (after : Stream) (l : s < length old.streams.items) (k : SameEnds (stream_at (state_of old) s) after) (streams : new.streams.items ≡ set old.streams.items s after) where
    abbrev before : Stream
    before = stream_at (state_of old) s

    same_hosts : ComesNoHost before after
    same_hosts = same_owners before after (ap (λ (v : End). v.owner) k.writer) (ap (λ (v : End). v.owner) k.reader)

    as_live : is_live after ≡ is_live before
    as_live = rw (k.writer, k.reader) refl

    placed : StreamIsPlaced (sizes_of (guests_of old.guests.items)) after
    placed =
        let was = placed_at (state_of old) s l i.sound in
        rw (k.payload, k.writer, k.reader) (record { writer = was.writer; reader = was.reader })

    -- no guest has one of its ends
    agrees_passed : ((side : Side) → is_held (end_of side before).owner ≡ false) → Agrees new
    agrees_passed unheld =
        let guests = guests_of old.guests.items in
        let more = set old.streams.items s after in
        let held : IsHeld guests more = IsHeld-set guests old.streams.items s after l (λ side. inl (same_owner side)) i.held in
        record {
          held = rw (h.guests, streams) held;
          told = rw (h.guests, streams, h.ready)
              (told-unheld guests more s held old.ready.sets
              (λ side. ap (λ (x : Stream). is_held (end_of side x).owner) (get_or-set_same old.streams.items s after no_stream l) ∙ ap is_held (same_owner side) ∙ unheld side)
              (but-besides guests guests old.streams.items more s old.ready.sets (λ _ _ _. refl) (besides-set old.streams.items s after) i.told));
          ready_counted = rw (h.guests, streams, h.ready)
              (counted-alike guests guests old.streams.items more old.ready refl
              (ready_by-put old.streams.items s after (ready_by-unheld after (λ side. ap is_held (same_owner side) ∙ unheld side) ∙ sym (ready_by-unheld before unheld))) i.ready_counted);
        }
      where
        same_owner : (side : Side) → (end_of side after).owner ≡ (end_of side before).owner
        same_owner Writing = ap (λ (v : End). v.owner) k.writer
        same_owner Reading = ap (λ (v : End). v.owner) k.reader

    pub IsStore-passed : ((side : Side) → is_held (end_of side before).owner ≡ false) → new.places ≡ old.places → IsStore new
    IsStore-passed unheld same =
        IsStore-counted old new tables
        (record {
          places = rw (same, streams) (ArePlaces-kept old.streams.items s after l old.places as_live i.places);
          served = rw streams (AreServed-set new.producers new.consumers old.streams.items served s after l same_hosts);
          kept = rw streams (have_set new.producers new.kept.items old.streams.items places s after l k.payload);
          few = rw (streams, length-set old.streams.items s after) i.few_streams;
        })
        (IsSound-same (record (state_of old) { streams = set old.streams.items s after }) (state_of new) (ap (λ (g : _). guests_of g.items) h.guests) streams h.contexts
        (IsSound-stream (state_of old) s after (type_of-same after before k.payload k.kind) placed i.sound)) (agrees_passed unheld) i

-- what is kept of one host end keeps its duty
pub duties_set : (ps : List Producer) (n : ℕ) (q : Producer) → q.duty ≡ (get_or ps n no_producer).duty → (m : ℕ) → (get_or (set ps n q) m no_producer).duty ≡ (get_or ps m no_producer).duty
duties_set ps n q e m = set-keeps (λ (x : Producer). x.duty) ps n m q no_producer e

pub reader_duties_set : (cs : List Consumer) (n : ℕ) (q : Consumer) → q.duty ≡ (get_or cs n no_consumer).duty → (m : ℕ) → (get_or (set cs n q) m no_consumer).duty ≡ (get_or cs m no_consumer).duty
reader_duties_set cs n q e m = set-keeps (λ (x : Consumer). x.duty) cs n m q no_consumer e
