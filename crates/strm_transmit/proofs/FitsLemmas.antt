-- The host ends that a store needs stay those that it needed where no host end is touched: a step keeps
-- the types of the streams that were made, and what is kept of host ends. And so they do where one was
-- called.
use Rattle.std.proofs.Common.{◌≡◌, ℕ, ◌<◌, true, List, length, set, refl, sym, ap, ◌∙◌}
use Rattle.std.proofs.lemmas.List.{length-set}
use Rattle.strm_buffers.specs.Listing.{Item}
use Rattle.strm_buffers.specs.Said.{WriterSaid}
use Rattle.strm_buffers.specs.Tells.{WriterTells, ReaderTells, Tells, no_tells, no_reader_tells, told_by, with_told, told_by_reader, with_told_reader, PollsWriter, ClosesWriter}
use Rattle.strm_machine.specs.State.{State, Guest, no_producer, no_consumer, producer_at, consumer_at, stream_at}
use Rattle.strm_machine.specs.Hosting.{duty_of}
use Rattle.strm_machine.specs.Soundness.{IsSound}
use Rattle.strm_machine.specs.Reactions.{reaction}
use Rattle.strm_machine.specs.declared.acts.Act.{Act}
use Rattle.strm_machine.specs.declared.streams.Duty.TheVariants.{Serves, Ended}
use Rattle.strm_machine.specs.declared.streams.Owner.TheVariants.{Host}
use Rattle.strm_machine.specs.declared.streams.Producer.{Producer}
use Rattle.strm_machine.specs.declared.streams.Consumer.{Consumer}
use Rattle.strm_machine.specs.declared.streams.Side.{Side}
use Rattle.strm_machine.specs.declared.streams.Side.TheVariants.{Writing, Reading}
use Rattle.strm_machine.proofs.StreamSteps.{reaction_streams}
use Rattle.strm_machine.proofs.TableLemmas.{set-keeps}
use Rattle.strm_host_machine.specs.Does.{Fits}
use Rattle.strm_host_machine.proofs.CloseLemmas.{ended_producer, ended_in}
use Rattle.strm_host_machine.proofs.ReaderLemmas.{ended_consumer, ended_reader_in}
use Rattle.strm_host_machine.proofs.FitsLemmas.{KeepsKind}
use Rattle.strm_host_machine.proofs.PollLemmas.{IsServing}
use Rattle.strm_machine.proofs.ShapeLemmas.{reaction-producers, reaction-consumers}
use Rattle.strm_transmit.specs.Inside.{AreServed}
use Rattle.strm_transmit.proofs.ServedLemmas.{at_set, serving_kept, reading_kept, ended_no}

-- what is kept of host ends stays, and so does the type of each stream that was made
pub record KeepsTypes (old new : State) : Type 0 where
  pub producers : new.producers ≡ old.producers
  pub consumers : new.consumers ≡ old.consumers
  pub types : (s : ℕ) → s < length old.streams → KeepsKind (stream_at old s) (stream_at new s)

-- a store's streams that are served were made
abbrev pub AreMade : State → Type 0
AreMade state = (side : Side) (n s : ℕ) → duty_of side state n ≡ Serves s → s < length state.streams

-- so do the host ends that the store needs
pub Fits-kept : (old new : State) (tells : Tells) → AreMade old → KeepsTypes old new → Fits old tells → Fits new tells
Fits-kept old new tells made k h = record {
  writers = λ n s e.
      let serves : (producer_at old n).duty ≡ Serves s = rw (← k.producers) e in
      let fits = h.writers n s serves in
      let same = k.types s (made Writing n s serves) in
      record { there = fits.there; kind = fits.kind ∙ sym same.kind; payload = fits.payload ∙ sym same.payload };
  readers = λ r s e.
      let serves : (consumer_at old r).duty ≡ Serves s = rw (← k.consumers) e in
      let fits = h.readers r s serves in
      let same = k.types s (made Reading r s serves) in
      record { there = fits.there; kind = fits.kind ∙ sym same.kind; payload = fits.payload ∙ sym same.payload };
}

pub same_streams : (old new : State) → new.producers ≡ old.producers → new.consumers ≡ old.consumers → new.streams ≡ old.streams → KeepsTypes old new
same_streams old new p c e = record {
  producers = p;
  consumers = c;
  types = λ s l. rw e (record { kind = refl; payload = refl });
}

-- a step without host ends
pub reaction-types : (state : State) (act : Act) → IsSound state → KeepsTypes state (reaction state act).state
reaction-types state act sound =
    let stay = reaction_streams state act sound in
    record {
      producers = reaction-producers state act;
      consumers = reaction-consumers state act;
      types = λ s l. record { kind = stay.kind s l; payload = stay.payload s l };
    }

-- ## A host end that was called, or is another

-- one has the kind and the payload of another
pub record KeepsType (old new : WriterTells) : Type 0 where
  pub kind : new.kind ≡ old.kind
  pub payload : new.payload ≡ old.payload

pub keeps-polled : {said : WriterSaid} {marked : List Item} (old new : WriterTells) → PollsWriter old new said marked → KeepsType old new
keeps-polled old new p = record { kind = p.kind; payload = p.payload }

pub keeps-closed : (old new : WriterTells) → ClosesWriter old new → KeepsType old new
keeps-closed old new c =
    record { kind = ap (λ (w : WriterTells). w.kind) c.same; payload = ap (λ (w : WriterTells). w.payload) c.same }

-- the same of a host reader
pub record KeepsReaderType (old new : ReaderTells) : Type 0 where
  pub kind : new.kind ≡ old.kind
  pub payload : new.payload ≡ old.payload

pub Fits-told : (state : State) (tells : Tells) (n : ℕ) (w : WriterTells) → KeepsType (told_by tells n) w → Fits state tells → Fits state (with_told tells n w)
Fits-told state tells n w k fits = record {
  writers = λ m s e.
      let f = fits.writers m s e in
      record {
        there = rw (length-set tells.writers n w) f.there;
        kind = set-keeps (λ (x : WriterTells). x.kind) tells.writers n m w no_tells k.kind ∙ f.kind;
        payload = set-keeps (λ (x : WriterTells). x.payload) tells.writers n m w no_tells k.payload ∙ f.payload;
      };
  readers = λ r s e. let f = fits.readers r s e in record { there = f.there; kind = f.kind; payload = f.payload };
}

pub Fits-told_reader : (state : State) (tells : Tells) (r : ℕ) (t : ReaderTells) → KeepsReaderType (told_by_reader tells r) t → Fits state tells → Fits state (with_told_reader tells r t)
Fits-told_reader state tells r t k fits = record {
  writers = λ n s e. let f = fits.writers n s e in record { there = f.there; kind = f.kind; payload = f.payload };
  readers = λ m s e.
      let f = fits.readers m s e in
      record {
        there = rw (length-set tells.readers r t) f.there;
        kind = set-keeps (λ (x : ReaderTells). x.kind) tells.readers r m t no_reader_tells k.kind ∙ f.kind;
        payload = set-keeps (λ (x : ReaderTells). x.payload) tells.readers r m t no_reader_tells k.payload ∙ f.payload;
      };
}

-- what is kept of it is another, which serves no other stream
pub Fits-producer : (state : State) (tells : Tells) (n : ℕ) (p : Producer) → n < length state.producers → ((s : ℕ) → p.duty ≡ Serves s → (producer_at state n).duty ≡ Serves s) → Fits state tells → Fits (record state { producers = set state.producers n p }) tells
Fits-producer state tells n p kept h fits = record {
  writers = λ m s e.
      fits.writers m s (at_set state.producers n p no_producer m (λ q. q.duty ≡ Serves s → (producer_at state m).duty ≡ Serves s) kept (λ same f. rw same (h s f)) (λ _ f. f) e);
  readers = fits.readers;
}

pub Fits-consumer : (state : State) (tells : Tells) (r : ℕ) (c : Consumer) → r < length state.consumers → ((s : ℕ) → c.duty ≡ Serves s → (consumer_at state r).duty ≡ Serves s) → Fits state tells → Fits (record state { consumers = set state.consumers r c }) tells
Fits-consumer state tells r c kept h fits = record {
  writers = fits.writers;
  readers = λ m s e.
      fits.readers m s (at_set state.consumers r c no_consumer m (λ q. q.duty ≡ Serves s → (consumer_at state m).duty ≡ Serves s) kept (λ same f. rw same (h s f)) (λ _ f. f) e);
}

pub Fits-ended : (state : State) (tells : Tells) (n : ℕ) → n < length state.producers → Fits state tells → Fits (ended_in state n) tells
Fits-ended state tells n kept =
    Fits-producer state tells n (ended_producer state n) kept (λ s e. absurd (ended_no Ended s refl e))

pub Fits-reader_ended : (state : State) (tells : Tells) (r : ℕ) → r < length state.consumers → Fits state tells → Fits (ended_reader_in state r) tells
Fits-reader_ended state tells r kept =
    Fits-consumer state tells r (ended_consumer state r) kept (λ s e. absurd (ended_no Ended s refl e))

-- guests are others, or the store is trapped
pub other_guests : (state : State) (guests : List Guest) (tells : Tells) → Fits state tells → Fits (record state { guests = guests }) tells
other_guests state guests tells fits = record { writers = fits.writers; readers = fits.readers }

pub though_trapped : (state : State) (tells : Tells) → Fits state tells → Fits (record state { trapped = true }) tells
though_trapped state tells fits = record { writers = fits.writers; readers = fits.readers }

-- ## The host ends of a stream

-- host writer n has the write end of stream s, in a store that its host ends fit
pub record HasWriter (state : State) (tells : Tells) (n s : ℕ) : Type 0 where
  pub served : AreServed state.producers state.consumers state.streams
  pub made : s < length state.streams
  pub owner : (stream_at state s).writer.owner ≡ Host n
  pub fits : Fits state tells

-- so it is there, and serves the stream
pub serving : (state : State) (tells : Tells) (n s : ℕ) → HasWriter state tells n s → IsServing state tells n s
serving state tells n s h =
    let duty = h.served.serves Writing n s h.owner in
    record { there = (h.fits.writers n s duty).there; kept = serving_kept state.producers n s duty; duty = duty }

-- host reader r has the read end of stream s, in a store that its host ends fit
pub record HasReader (state : State) (tells : Tells) (r s : ℕ) : Type 0 where
  pub served : AreServed state.producers state.consumers state.streams
  pub made : s < length state.streams
  pub owner : (stream_at state s).reader.owner ≡ Host r
  pub fits : Fits state tells

-- a host reader in use, of a store that keeps something of it
pub record IsReading (state : State) (tells : Tells) (r s : ℕ) : Type 0 where
  pub there : r < length tells.readers
  pub kept : r < length state.consumers
  pub duty : (consumer_at state r).duty ≡ Serves s

pub reading : (state : State) (tells : Tells) (r s : ℕ) → HasReader state tells r s → IsReading state tells r s
reading state tells r s h =
    let duty = h.served.serves Reading r s h.owner in
    record { there = (h.fits.readers r s duty).there; kept = reading_kept state.consumers r s duty; duty = duty }
