-- A host writer that gets a stream or is fed, and a host reader that is granted items.
use Rattle.std.proofs.Common.{◌≡◌, ℕ, ◌<◌, Bool, true, false, List, [], ◌∷◌, ◌++◌, length, set, None, Result, Ok, Err, refl, sym, ap, subst, ◌∙◌, inl, inr, arith, length-append}
use Rattle.std.specs.Prelude.{◌||◌, IfOk, OnOk, OnErr}
use Rattle.std.proofs.lemmas.Bool.{cases_lt}
use Rattle.std.proofs.lemmas.Bool.Decides.{nat_tests}
use Rattle.strm_codes.specs.declared.codes.TransmitIndex.{TransmitIndex}
use Rattle.strm_codes.specs.declared.refusals.Refusal.{Refusal}
use Rattle.strm_codes.specs.declared.refusals.Refusal.TheVariants as refusals
use Rattle.strm_buffers.specs.Tells.{ReaderTells, Tells, no_reader_tells, told_by, with_told, told_by_reader, with_told_reader, writer_fed, reader_granted}
use Rattle.strm_machine.specs.State.{State, host_limit, stream_limit, no_stream, no_producer, producer_at, consumer_at, is_held, is_host, idle_end}
use Rattle.strm_machine.specs.Tests.{are_places_full, are_streams_full}
use Rattle.strm_machine.specs.Refusals.{Reason, where_, first_of, reader_reasons}
use Rattle.strm_machine.specs.declared.acts.Act.TheVariants.{OnHost}
use Rattle.strm_machine.specs.declared.acts.HostAct.{HostAct}
use Rattle.strm_machine.specs.declared.acts.HostAct.TheVariants.{New, Feed, Pipe, Grant}
use Rattle.strm_machine.specs.declared.replies.Reply.TheVariants as replies
use Rattle.strm_machine.specs.declared.streams.Duty.{Duty}
use Rattle.strm_machine.specs.declared.streams.Duty.TheVariants.{Unused, Serves, Ended}
use Rattle.strm_machine.specs.declared.streams.Producer.{Producer}
use Rattle.strm_host_machine.specs.Ends.{Reader, no_reader}
use Rattle.strm_host_machine.specs.World.{World}
use Rattle.strm_host_machine.specs.Attaching.{hosts_new}
use Rattle.strm_host_machine.specs.HostRefusals.{is_unknown_host, is_used, type_for_reader, refusal_in}
use Rattle.strm_host_machine.specs.Steps.{on_host, performs_in, outcome}
use Rattle.strm_host_machine.specs.Does.{Logs, readers_from, world_of, FitsWriter, FitsReader, Fits, Does}
use Rattle.strm_host_machine.proofs.DoesLemmas.{Does-untold}
use Rattle.strm_host_machine.proofs.WorldLemmas.{length-writers_from}
use Rattle.strm_host_machine.proofs.ReaderLemmas.{reader_at-from, length-readers_from}
use Rattle.strm_host_machine.proofs.PipeAttachLemmas.{Does-grant}
use Rattle.strm_host_machine.proofs.AttachLemmas.{hosted_by, hosting_by, hosted_in, Does-hosts_new, Does-feed}
use Rattle.strm_transmit.specs.Meets.{admitted, as_reply, or_found}
use Rattle.strm_transmit.specs.Hosted.{MayBeDone, MeetsHosted}
use Rattle.strm_transmit.specs.declared.errors.StoreError.{StoreError}
use Rattle.strm_transmit.specs.declared.errors.StoreError.TheVariants.{OutOfMemory}
use Rattle.strm_transmit.proofs.ServedLemmas.{at_set, same_stream, same_host, serves_none, keeps_readers, writer_now, AreServed-hosted}
use Rattle.strm_transmit.proofs.FitsLemmas.{AreMade, Fits-told, Fits-told_reader}
use Rattle.strm_transmit.proofs.StepLemmas.{is_admitted}
use Rattle.strm_transmit.proofs.HostStepLemmas.{does_admitted, Does-after, Fits-after, all_stays, unchanged}
use Rattle.strm_transmit.proofs.StoreLemmas.{kept_tables, Agrees, agrees_room, IsStore-counted, IsSound-same}
use Rattle.strm_transmit.proofs.ToldLemmas.{but-besides, besides-push, told-retold, IsHeld-push}
use Rattle.strm_machine.proofs.HeldLemmas.{IsHeld}
use Rattle.std.proofs.lemmas.List.{get_or_past, get_or_push, map-append}
use Rattle.std.proofs.lemmas.List.Elements.{All-push, All-weaker}
use Rattle.strm_machine.specs.Soundness.{sizes_of, handles_of, type_with, type_of, types_of, AreNamed, OperationIsPlaced, StreamIsPlaced, IsSound}
use Rattle.strm_machine.specs.Hosting.{duty_among}
use Rattle.strm_machine.specs.Sides.{end_of}
use Rattle.strm_machine.specs.declared.streams.End.{End}
use Rattle.strm_machine.specs.declared.streams.Side.{Side}
use Rattle.strm_machine.specs.declared.streams.Side.TheVariants.{Writing, Reading}
use Rattle.strm_machine.specs.declared.streams.Owner.TheVariants.{Host, Loose}
use Rattle.strm_machine.specs.declared.streams.Stream.{Stream}
use Rattle.strm_machine.proofs.HostLemmas.{no_host}
use Rattle.strm_machine.proofs.SoundLemmas.{AreNamed-more}
use Rattle.strm_machine.proofs.TableLemmas.{at_push}
use Rattle.strm_machine.proofs.TurnLemmas.{all_kept}
use Rattle.strm_channels.specs.Guests.{guests_of}
use Rattle.strm_transmit.specs.Inside.{state_of, padded_items, AreServed, IsStore}
use Rattle.strm_transmit.specs.Places.{ArePlaces}
use Rattle.strm_transmit.specs.Keeping.{HasGrown, PlaceMade}
use Rattle.strm_transmit.proofs.KeptLemmas.{have_grown, have_hosted, view_made}
use Rattle.strm_transmit.specs.declared.store.Store.TheInside.{Inside}
use Rattle.strm_transmit.specs.ReadyGuests.{SameCounts, Added}
use Rattle.strm_transmit.proofs.ReadyGuestLemmas.{counted-added}

-- ## Refusals

-- why a call on host end n is refused, where so many host writers and so many host readers are there, and
-- host reader n reads streams of this type
abbrev pub reasons_among : State → ℕ → ℕ → TransmitIndex → ℕ → HostAct → List Reason
reasons_among state writers readers ty n New =
    where_ (is_unknown_host writers n) refusals.UnknownHost
    ∷ where_ (is_used (producer_at state n).duty) refusals.HostUsed
    ∷ where_ (are_places_full state 3 || are_streams_full state) refusals.Full
    ∷ []
reasons_among state writers readers ty n (Feed bytes) = where_ (is_unknown_host writers n) refusals.UnknownHost ∷ []
reasons_among state writers readers ty r (Pipe reader) =
    where_ (is_unknown_host readers r) refusals.UnknownHost
    ∷ where_ (is_used (consumer_at state r).duty) refusals.HostUsed
    ∷ reader_reasons state reader ty
reasons_among state writers readers ty r (Grant count) = where_ (is_unknown_host readers r) refusals.UnknownHost ∷ []

-- the type of the streams that host reader r reads, as it tells
abbrev pub type_told : Tells → ℕ → TransmitIndex
type_told tells r = type_with (told_by_reader tells r).kind (told_by_reader tells r).payload

-- the same by what host ends tell
abbrev pub reasons_of : State → Tells → ℕ → HostAct → List Reason
reasons_of state tells n act = reasons_among state (length tells.writers) (length tells.readers) (type_told tells n) n act

world_refusal : (world : World) (n : ℕ) (act : HostAct) → refusal_in world (OnHost n act) ≡ first_of (reasons_among world.state (length world.writers) (length world.readers) (type_for_reader world n) n act)
unfolding refusal_in
world_refusal world n New = refl
world_refusal world n (Feed bytes) = refl
world_refusal world r (Pipe reader) = refl
world_refusal world r (Grant count) = refl

type_for_reader-told : (state : State) (tells : Tells) (logs : Logs) (r : ℕ) → type_for_reader (world_of state tells logs) r ≡ type_told tells r
type_for_reader-told state tells logs r =
    elim (cases_lt r (length tells.readers)) [
      | inl l ↦ ap (λ (x : Reader). type_with x.kind x.payload) (reader_at-from state tells logs r l)
      | inr l ↦
          ap (λ (x : Reader). type_with x.kind x.payload) (get_or_past (readers_from tells.readers logs.readers) r no_reader (rw (length-readers_from tells.readers logs.readers) l))
          ∙ ap (λ (x : ReaderTells). type_with x.kind x.payload) (sym (get_or_past tells.readers r no_reader_tells l))
    ]

pub host_refusal-is : (state : State) (tells : Tells) (n : ℕ) (act : HostAct) (logs : Logs) → refusal_in (world_of state tells logs) (OnHost n act) ≡ first_of (reasons_of state tells n act)
host_refusal-is state tells n act logs =
    let world = world_of state tells logs in
    world_refusal world n act
    ∙ ap (λ count. first_of (reasons_among state count (length world.readers) (type_for_reader world n) n act)) (length-writers_from state.producers tells.writers logs.writers)
    ∙ ap (λ count. first_of (reasons_among state (length tells.writers) count (type_for_reader world n) n act)) (length-readers_from tells.readers logs.readers)
    ∙ ap (λ ty. first_of (reasons_among state (length tells.writers) (length tells.readers) ty n act)) (type_for_reader-told state tells logs n)

-- no records
abbrev pub no_logs : Logs
no_logs = record { writers = []; readers = [] }

-- what refuses does so whatever records are yet to come
pub host_refusal-same : (state : State) (tells : Tells) (n : ℕ) (act : HostAct) (logs other : Logs) → refusal_in (world_of state tells logs) (OnHost n act) ≡ refusal_in (world_of state tells other) (OnHost n act)
host_refusal-same state tells n act logs other = host_refusal-is state tells n act logs ∙ sym (host_refusal-is state tells n act other)

-- the call was admitted
module _ (state : State) (tells : Tells) (n : ℕ) (act : HostAct) (found : Result (Unit {0}) Refusal) where
  pub host_admitted : ((logs : Logs) → found ≡ or_found (refusal_in (world_of state tells logs) (OnHost n act)) tt) → Ok tt ≡ admitted state found → MayBeDone state tells (OnHost n act)
  host_admitted e a = record {
    untrapped = (is_admitted state (refusal_in (world_of state tells no_logs) (OnHost n act)) tt found tt (e no_logs) a).untrapped;
    none = λ logs. (is_admitted state (refusal_in (world_of state tells logs) (OnHost n act)) tt found tt (e logs) a).none;
  }

-- a first reason that doesn't hold
pub record Passes (b : Bool) (rest : List Reason) : Type 0 where
  pub test : b ≡ false
  pub behind : first_of rest ≡ None

pub passes : (b : Bool) (q : Refusal) (rest : List Reason) → first_of (where_ b q ∷ rest) ≡ None → Passes b rest
passes true q rest e = cc
passes false q rest e = record { test = refl; behind = e }

pub known_host : (count n : ℕ) → is_unknown_host count n ≡ false → (n < count) × (n < host_limit)
known_host count n e = (grind (arith, nat_tests), grind (arith, nat_tests))

pub unused_is : (duty : Duty) → is_used duty ≡ false → duty ≡ Unused
unused_is Unused e = refl
unused_is (Serves s) e = cc
unused_is Ended e = cc

streams_few : (state : State) → (are_places_full state 3 || are_streams_full state) ≡ false → length state.streams < stream_limit
streams_few state e = grind (arith, nat_tests)

-- a host writer that may get a stream
pub record HostFits (state : State) (tells : Tells) (n : ℕ) : Type 0 where
  pub there : n < length tells.writers
  pub few : n < host_limit
  pub unused : (producer_at state n).duty ≡ Unused
  pub streams : length state.streams < stream_limit

pub host_fits : (state : State) (tells : Tells) (n : ℕ) → MayBeDone state tells (OnHost n New) → HostFits state tells n
host_fits state tells n may =
    let used = is_used (producer_at state n).duty in
    let full = are_places_full state 3 || are_streams_full state in
    let behind_full : List Reason = where_ full refusals.Full ∷ [] in
    let a = passes (is_unknown_host (length tells.writers) n) refusals.UnknownHost (where_ used refusals.HostUsed ∷ behind_full) (sym (host_refusal-is state tells n New no_logs) ∙ may.none no_logs) in
    let b = passes used refusals.HostUsed behind_full a.behind in
    let c = passes full refusals.Full [] b.behind in
    let known = known_host (length tells.writers) n a.test in
    record { there = known.0; few = known.1; unused = unused_is (producer_at state n).duty b.test; streams = streams_few state c.test }

pub feed_fits : (state : State) (tells : Tells) (n : ℕ) (bytes : List ℕ) → MayBeDone state tells (OnHost n (Feed bytes)) → n < length tells.writers
feed_fits state tells n bytes may =
    let a = passes (is_unknown_host (length tells.writers) n) refusals.UnknownHost [] (sym (host_refusal-is state tells n (Feed bytes) no_logs) ∙ may.none no_logs) in
    (known_host (length tells.writers) n a.test).0

-- ## A stream more

performs-new : (world : World) (n : ℕ) → performs_in world (OnHost n New) ≡ hosts_new world n
unfolding performs_in
performs-new world n = refl

performs-feed : (world : World) (n : ℕ) (bytes : List ℕ) → performs_in world (OnHost n (Feed bytes)) ≡ on_host world n (Feed bytes)
unfolding performs_in
performs-feed world n bytes = refl

module _ (old : State) (tells : Tells) (n : ℕ) (made : AreMade old) (h : HostFits old tells n) (kept : n < length old.producers) (fits : Fits old tells) where
  serves_last : (s k : ℕ) → Serves s ≡ Serves k → k ≡ s
  serves_last s k f = cc

  past : (s : ℕ) → s < length old.streams → s ≡ length old.streams → ⊥
  past s a b = omega (arith, a, b)

  -- the one that serves the last stream
  only : (m s : ℕ) → (producer_at (hosted_in old tells n) m).duty ≡ Serves s → s ≡ length old.streams → m ≡ n
  only m s e last =
      at_set old.producers n (hosting_by (told_by tells n) (length old.streams)) no_producer m (λ p. p.duty ≡ Serves s → m ≡ n) kept
      (λ f g. f) (λ f g. absurd (past s (made Writing m s g) last)) e

  before : (m s : ℕ) → (producer_at (hosted_in old tells n) m).duty ≡ Serves s → (s ≡ length old.streams → ⊥) → (producer_at old m).duty ≡ Serves s
  before m s e other =
      at_set old.producers n (hosting_by (told_by tells n) (length old.streams)) no_producer m (λ p. p.duty ≡ Serves s → (producer_at old m).duty ≡ Serves s) kept
      (λ f g. absurd (other (serves_last (length old.streams) s g))) (λ f g. g) e

  hosted-fits : Fits (hosted_in old tells n) tells
  hosted-fits = record {
    writers = λ m s e.
        at_push old.streams (hosted_by (told_by tells n) n) no_stream s (λ x. FitsWriter x tells m)
        (λ last. subst (λ k. FitsWriter (hosted_by (told_by tells n) n) tells k) (sym (only m s e last)) (record { there = h.there; kind = refl; payload = refl }))
        (λ other. fits.writers m s (before m s e other));
    readers = λ r s e.
        at_push old.streams (hosted_by (told_by tells n) n) no_stream s (λ x. FitsReader x tells r)
        (λ last. absurd (past s (made Reading r s e) last)) (λ other. fits.readers r s e);
  }

-- running out of memory that changed nothing
pub hosted_out_of_memory : (old new : State) (tells told : Tells) (n : ℕ) (act : HostAct) → MayBeDone old tells (OnHost n act) → Fits old tells → new ≡ old → told ≡ tells → MeetsHosted old new tells told (Err OutOfMemory) (OnHost n act)
hosted_out_of_memory old new tells told n act may fits same untold =
    subst (λ (x : State). MeetsHosted old x tells told (Err OutOfMemory) (OnHost n act)) (sym same)
    (subst (λ (x : Tells). MeetsHosted old old tells x (Err OutOfMemory) (OnHost n act)) (sym untold)
    (unchanged old tells (OnHost n act) OutOfMemory (all_stays old tells)
    (Does-untold old old tells (Err None) (λ w. outcome w (OnHost n act)) (λ logs. tt) tt) fits (λ w. may) tt (λ u. cc u)))

-- a stream may be made for host writer n, in a store that its host ends fit
pub record MayHost (old : State) (tells : Tells) (n : ℕ) : Type 0 where
  pub served : AreServed old.producers old.consumers old.streams
  pub may : MayBeDone old tells (OnHost n New)
  pub fits : Fits old tells

module _ (old new : State) (tells : Tells) (n : ℕ) (h : MayHost old tells n) where
  hosted_new : (s : ℕ) → s ≡ length old.streams → new ≡ hosted_in old tells n → MeetsHosted old new tells tells (Ok (replies.Number s)) (OnHost n New)
  hosted_new s number is =
      let writer = host_fits old tells n h.may in
      let does = does_admitted old (hosted_in old tells n) tells tells (OnHost n New) (Ok (replies.Number (length old.streams))) (λ w. hosts_new w n) h.may
      (λ logs. performs-new (world_of old tells logs) n) (Does-hosts_new old tells n writer.there writer.unused) in
      record {
        does = Does-after is refl (subst (λ k. Does old (hosted_in old tells n) tells tells (Ok (replies.Number k)) (λ w. outcome w (OnHost n New))) (sym number) does);
        fits = Fits-after (hosted_in old tells n) new tells tells is refl (hosted-fits old tells n h.served.made writer (omega (arith, h.served.all, writer.few)) h.fits);
        alone = λ u. cc u;
        err = tt;
        by_record = tt;
        out_of_memory = λ w. cc;
      }

  -- by what the making of the stream answered
  pub hosted_made : (result : Result ℕ StoreError) → IfOk result (λ s. s ≡ length old.streams) → OnOk result (new ≡ hosted_in old tells n) → OnErr result (result ≡ Err OutOfMemory) → OnErr result (new ≡ old) → MeetsHosted old new tells tells (as_reply replies.Number result) (OnHost n New)
  hosted_made (Ok s) number is memory same = hosted_new s number is
  hosted_made (Err error) number is memory same =
      subst (λ (x : Result ℕ StoreError). MeetsHosted old new tells tells (as_reply replies.Number x) (OnHost n New)) (sym memory)
      (hosted_out_of_memory old new tells tells n New h.may h.fits same refl)

-- ## Bytes from outside

pub hosted_feed : (state : State) (tells told : Tells) (n : ℕ) (bytes : List ℕ) → MayBeDone state tells (OnHost n (Feed bytes)) → Fits state tells → told ≡ with_told tells n (writer_fed (told_by tells n) bytes) → MeetsHosted state state tells told (Ok replies.Done) (OnHost n (Feed bytes))
hosted_feed state tells told n bytes may fits is =
    let after = with_told tells n (writer_fed (told_by tells n) bytes) in
    record {
      does = Does-after refl is
          (does_admitted state state tells after (OnHost n (Feed bytes)) (Ok replies.Done) (λ w. on_host w n (Feed bytes)) may
          (λ logs. performs-feed (world_of state tells logs) n bytes) (Does-feed state tells n bytes (feed_fits state tells n bytes may)));
      fits = Fits-after state state after told refl is
          (Fits-told state tells n (writer_fed (told_by tells n) bytes) (record { kind = refl; payload = refl }) fits);
      alone = λ u. cc u;
      err = tt;
      by_record = tt;
      out_of_memory = λ w. cc;
    }

-- ## A host reader that is granted items

performs-grant : (world : World) (r count : ℕ) → performs_in world (OnHost r (Grant count)) ≡ on_host world r (Grant count)
unfolding performs_in
performs-grant world r count = refl

pub grant_fits : (state : State) (tells : Tells) (r count : ℕ) → MayBeDone state tells (OnHost r (Grant count)) → r < length tells.readers
grant_fits state tells r count may =
    let a = passes (is_unknown_host (length tells.readers) r) refusals.UnknownHost [] (sym (host_refusal-is state tells r (Grant count) no_logs) ∙ may.none no_logs) in
    (known_host (length tells.readers) r a.test).0

pub hosted_grant : (state : State) (tells told : Tells) (r count : ℕ) → MayBeDone state tells (OnHost r (Grant count)) → Fits state tells → told ≡ with_told_reader tells r (reader_granted (told_by_reader tells r) count) → MeetsHosted state state tells told (Ok replies.Done) (OnHost r (Grant count))
hosted_grant state tells told r count may fits is =
    let after = with_told_reader tells r (reader_granted (told_by_reader tells r) count) in
    record {
      does = Does-after refl is
          (does_admitted state state tells after (OnHost r (Grant count)) (Ok replies.Done) (λ w. on_host w r (Grant count)) may
          (λ logs. performs-grant (world_of state tells logs) r count) (Does-grant state tells r count (grant_fits state tells r count may)));
      fits = Fits-after state state after told refl is
          (Fits-told_reader state tells r (reader_granted (told_by_reader tells r) count) (record { kind = refl; payload = refl }) fits);
      alone = λ u. cc u;
      err = tt;
      by_record = tt;
      out_of_memory = λ w. cc;
    }

-- ## The store with a stream of a host writer more

IsSound-hosted : (state : State) (stream : Stream) (ps : List Producer) → StreamIsPlaced (sizes_of state.guests) stream → IsSound state → IsSound (record state { streams = state.streams ++ stream ∷ []; producers = ps })
IsSound-hosted state stream ps p h = record {
  named = rw (map-append type_of state.streams (stream ∷ []))
      (All-weaker (AreNamed (types_of state.streams)) (AreNamed (types_of state.streams ++ type_of stream ∷ [])) (AreNamed-more (types_of state.streams) (type_of stream)) (handles_of state.guests) h.named);
  placed = All-push (StreamIsPlaced (sizes_of state.guests)) state.streams stream h.placed p;
  small = h.small;
  own = h.own;
  sets = h.sets;
  contexts = h.contexts;
}

-- a stream more, that host writer n serves, which was unused before
pub record HostsStream (old new : Inside) (n : ℕ) (stream : Stream) (p : Producer) : Type 0 where
  pub few : length old.streams.items < stream_limit
  pub kept : n < host_limit
  pub unused : (producer_at (state_of old) n).duty ≡ Unused
  pub serves : p.duty ≡ Serves (length old.streams.items)
  pub writer : stream.writer ≡ idle_end (Host n)
  pub reader : stream.reader ≡ idle_end Loose
  pub tag : new.tag ≡ old.tag
  pub limits : new.limits ≡ old.limits
  pub contexts : new.contexts ≡ old.contexts
  pub trapped : new.is_trapped ≡ old.is_trapped
  pub counter : new.counter ≡ old.counter
  pub guests : new.guests ≡ old.guests
  pub places : ArePlaces new.places new.streams.items
  pub live_sets : new.live_sets ≡ old.live_sets
  pub bytes : new.bytes ≡ old.bytes
  pub streams : new.streams.items ≡ old.streams.items ++ stream ∷ []
  pub producers : new.producers ≡ set old.producers n p
  pub place : PlaceMade old.kept.items new.kept.items n stream.payload
  pub consumers : new.consumers ≡ old.consumers
  pub added : Added (guests_of old.guests.items) stream old.ready new.ready

state_of-hosted : (old new : Inside) (n : ℕ) (stream : Stream) (p : Producer) → HostsStream old new n stream p → padded_items new.kept.items ≡ padded_items old.kept.items → state_of new ≡ record (state_of old) { streams = old.streams.items ++ stream ∷ []; producers = set old.producers n p }
state_of-hosted old new n stream p h k = rw (h.tag, h.limits, h.contexts, h.trapped, h.guests, h.streams, h.producers, h.consumers, k) refl

-- an unused host writer that serves a stream more, which it writes
record ServesMore (old : Inside) (n : ℕ) (stream : Stream) (p : Producer) : Type 0 where
  pub kept : n < length old.producers
  pub unused : (producer_at (state_of old) n).duty ≡ Unused
  pub serves : p.duty ≡ Serves (length old.streams.items)
  pub writer : stream.writer.owner ≡ Host n
  pub reader : is_host stream.reader.owner ≡ false

hosted_served : (old : Inside) (n : ℕ) (stream : Stream) (p : Producer) → ServesMore old n stream p
    → AreServed old.producers old.consumers old.streams.items → AreServed (set old.producers n p) old.consumers (old.streams.items ++ stream ∷ [])
hosted_served old n stream p m h =
    let now = writer_now old.producers old.consumers n p m.kept in
    AreServed-hosted old.producers (set old.producers n p) old.consumers old.consumers old.streams.items h Writing n (keeps_readers old.producers old.consumers n p) stream
    all (λ t other. serves_none old.producers old.consumers old.streams.items h Writing n m.unused t) (λ t e. same_stream t (length old.streams.items) p.duty (sym now ∙ e) m.serves)
  where
    all : (side : Side) (k : ℕ) → (end_of side stream).owner ≡ Host k → duty_among side (set old.producers n p) old.consumers k ≡ Serves (length old.streams.items)
    all Writing k o = rw (same_host k n stream.writer.owner o m.writer) (writer_now old.producers old.consumers n p m.kept ∙ m.serves)
    all Reading k o = absurd (no_host stream.reader.owner k m.reader o)

-- no guest has an end of the stream
agrees_hosted : (old new : Inside) (n : ℕ) (stream : Stream) (p : Producer) → HostsStream old new n stream p → IsStore old → Agrees new
agrees_hosted old new n stream p h i =
    let guests = guests_of old.guests.items in
    let more = old.streams.items ++ stream ∷ [] in
    let s = length old.streams.items in
    let held : IsHeld guests more = IsHeld-push guests old.streams.items stream unheld i.held in
    record {
      held = rw (h.guests, h.streams) held;
      told = rw (h.guests, h.streams)
          (told-retold guests more s held old.ready.sets new.ready.sets stream (get_or_push old.streams.items stream no_stream s refl)
          (but-besides guests guests old.streams.items more s old.ready.sets (λ _ _ _. refl) (besides-push old.streams.items stream) i.told)
          h.added.sets);
      ready_counted = rw (h.guests, h.streams) (counted-added guests guests guests old.streams.items stream old.ready new.ready refl h.added i.ready_counted);
    }
  where
    unheld : (side : Side) → is_held (end_of side stream).owner ≡ false
    unheld Writing = ap (λ (x : End). is_held x.owner) h.writer
    unheld Reading = ap (λ (x : End). is_held x.owner) h.reader

pub IsStore-hosted : (old new : Inside) (n : ℕ) (stream : Stream) (p : Producer) → HostsStream old new n stream p → IsStore old → IsStore new
IsStore-hosted old new n stream p h i =
    let writer : stream.writer.owner ≡ Host n = ap (λ (x : End). x.owner) h.writer in
    let reader : is_host stream.reader.owner ≡ false = ap (λ (x : End). is_host x.owner) h.reader in
    let sizes = sizes_of (guests_of old.guests.items) in
    let idle : StreamIsPlaced sizes stream = record {
      writer = subst (λ (x : End). OperationIsPlaced sizes stream.payload x.operation) (sym h.writer) tt;
      reader = subst (λ (x : End). OperationIsPlaced sizes stream.payload x.operation) (sym h.reader) tt;
    } in
    IsStore-counted old new
    (kept_tables old new (record { limits = h.limits; counter = h.counter; live_sets = h.live_sets; bytes = h.bytes; guests = rw h.guests (all_kept (guests_of old.guests.items)) }) i)
    (record {
      places = h.places;
      served = rw (h.producers, h.consumers, h.streams) (hosted_served old n stream p (record { kept = omega (arith, i.served.all, h.kept); unused = h.unused; serves = h.serves; writer = writer; reader = reader }) i.served);
      kept = rw (h.producers, h.streams) (have_hosted old.producers old.kept.items old.streams.items i.kept old.consumers new.kept.items n p stream i.served (omega (arith, i.served.all, h.kept)) h.serves h.unused h.place);
      few = rw h.streams (omega (arith, h.few, length-append old.streams.items (stream ∷ [])));
    })
    (subst IsSound (sym (state_of-hosted old new n stream p h (view_made old.producers old.kept.items old.streams.items i.kept new.kept.items n stream.payload h.unused h.place))) (IsSound-hosted (state_of old) stream (set old.producers n p) idle i.sound))
    (agrees_hosted old new n stream p h i) i

-- places were made, and none of them is used
pub record GrowsPlaces (old new : Inside) : Type 0 where
  pub limits : new.limits ≡ old.limits
  pub contexts : new.contexts ≡ old.contexts
  pub counter : new.counter ≡ old.counter
  pub guests : new.guests ≡ old.guests
  pub places : ArePlaces new.places new.streams.items
  pub live_sets : new.live_sets ≡ old.live_sets
  pub bytes : new.bytes ≡ old.bytes
  pub streams : new.streams.items ≡ old.streams.items
  pub producers : new.producers ≡ old.producers
  pub consumers : new.consumers ≡ old.consumers
  pub grown : HasGrown old.kept.items new.kept.items
  pub ready : new.ready.sets ≡ old.ready.sets
  pub ready_counts : SameCounts old.ready new.ready

pub IsStore-grown : (old new : Inside) → GrowsPlaces old new → IsStore old → IsStore new
IsStore-grown old new h i =
    IsStore-counted old new
    (kept_tables old new (record { limits = h.limits; counter = h.counter; live_sets = h.live_sets; bytes = h.bytes; guests = rw h.guests (all_kept (guests_of old.guests.items)) }) i)
    (record {
      places = h.places;
      served = rw (h.producers, h.consumers, h.streams) i.served;
      kept = rw (h.producers, h.streams) (have_grown old.producers old.kept.items old.streams.items i.kept new.kept.items h.grown);
      few = rw h.streams i.few_streams;
    })
    (IsSound-same (state_of old) (state_of new) (ap (λ (g : _). guests_of g.items) h.guests) h.streams h.contexts i.sound)
    (agrees_room old new (rw h.guests (all_kept (guests_of old.guests.items))) h.streams h.ready h.ready_counts i) i

-- a state with a stream more, which host writer n serves
abbrev pub with_hosted : State → ℕ → Stream → Producer → State
with_hosted state n x q = record state { streams = state.streams ++ x ∷ []; producers = set state.producers n q }

-- the state with a stream more, by what the calls say
pub hosted_is : (old new : Inside) (n : ℕ) (stream : Stream) (p : Producer) → HostsStream old new n stream p → (state : State) → state_of old ≡ state → IsStore old
    → (x : Stream) → stream ≡ x → (q : Producer) → p ≡ q → state_of new ≡ with_hosted state n x q
hosted_is old new n stream p h state e i x f q g =
    state_of-hosted old new n stream p h (view_made old.producers old.kept.items old.streams.items i.kept new.kept.items n stream.payload h.unused h.place)
    ∙ ap (λ y. record (state_of old) { streams = old.streams.items ++ y ∷ []; producers = set old.producers n p }) f
    ∙ ap (λ y. record (state_of old) { streams = old.streams.items ++ x ∷ []; producers = set old.producers n y }) g
    ∙ ap (λ (y : State). record y { streams = y.streams ++ x ∷ []; producers = set y.producers n q }) e
