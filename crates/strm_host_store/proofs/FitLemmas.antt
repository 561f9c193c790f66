-- Host ends that fit a store, after what is done to them.
use Rattle.std.proofs.Common.{◌≡◌, ◌<◌, ℕ, List, [], ◌∷◌, ◌++◌, map, length, refl, sym, ◌∙◌, ap, arith, length-append}
use Rattle.std.specs.Prelude.{slice_index_or, slice_set, Result, Option, Some, None}
use Rattle.std.proofs.Math.ListN.{get_or-map, get_or-append}
use Rattle.std.proofs.Math.Seq.{map-set_same}
use Rattle.std.proofs.lemmas.List.{length-map}
use Rattle.std.proofs.lemmas.Simd.{map-map}
use Rattle.strm_codes.specs.declared.codes.TransmitKind.{TransmitKind}
use Rattle.strm_codes.specs.declared.codes.TransmitKind.TheVariants.{Stream}
use Rattle.strm_codes.specs.declared.payloads.Payload.{Payload}
use Rattle.strm_codes.specs.declared.payloads.Payload.TheVariants.{Nothing}
use Rattle.strm_buffers.specs.Tells.{WriterTells, ReaderTells, Tells, told_by, told_by_reader, no_tells, no_reader_tells}
use Rattle.strm_machine.specs.State.{State, Guest}
use Rattle.strm_machine.specs.declared.streams.Stream.{Stream as AStream}
use Rattle.strm_host_machine.specs.Does.{Fits, FitsWriter, FitsReader}
use Rattle.strm_machine.specs.declared.acts.Act.{Act}
use Rattle.strm_machine.specs.declared.replies.Reply.{Reply}
use Rattle.strm_transmit.specs.Hosted.{StillFits, MeetsHosted}
use Rattle.strm_transmit.specs.declared.errors.StoreError.{StoreError}
use Rattle.strm_ready_ends.specs.SendQueues.{SendQueue, ready_tells, unfed, forgotten}
use Rattle.strm_ready_ends.specs.ReceiveQueues.{ReceiveQueue, ready_reader_tells, ungranted, reader_forgotten}
use Rattle.strm_host_store.specs.HostStates.{queue_in, reader_queue_in, ready_tell, host_state, IsAmongReady, with_writer_forgotten, with_reader_forgotten}
use Rattle.strm_host_store.proofs.ReadyLemmas.{told_ready, told_ready_reader}

-- BY KIND AND PAYLOAD

-- the type of a host writer
abbrev writer_type : WriterTells → TransmitKind × Payload
writer_type tells = (tells.kind, tells.payload)

abbrev reader_type : ReaderTells → TransmitKind × Payload
reader_type tells = (tells.kind, tells.payload)

-- host ends of the same types
pub record SameTypes (told more : Tells) : Type 0 where
  pub writers : map writer_type more.writers ≡ map writer_type told.writers
  pub readers : map reader_type more.readers ≡ map reader_type told.readers

type_at : (told more : Tells) (n : ℕ) → map writer_type more.writers ≡ map writer_type told.writers → writer_type (told_by more n) ≡ writer_type (told_by told n)
type_at told more n e =
    sym (get_or-map writer_type more.writers n no_tells)
    ∙ ap (λ (ts : List (TransmitKind × Payload)). slice_index_or ts n (writer_type no_tells)) e
    ∙ get_or-map writer_type told.writers n no_tells

reader_type_at : (told more : Tells) (r : ℕ) → map reader_type more.readers ≡ map reader_type told.readers → reader_type (told_by_reader more r) ≡ reader_type (told_by_reader told r)
reader_type_at told more r e =
    sym (get_or-map reader_type more.readers r no_reader_tells)
    ∙ ap (λ (ts : List (TransmitKind × Payload)). slice_index_or ts r (reader_type no_reader_tells)) e
    ∙ get_or-map reader_type told.readers r no_reader_tells

fits_writer : (stream : AStream) (told more : Tells) (n : ℕ) → map writer_type more.writers ≡ map writer_type told.writers → FitsWriter stream told n → FitsWriter stream more n
fits_writer stream told more n e f =
    let ty = type_at told more n e in
    record {
      there = omega (arith, f.there, length-map more.writers writer_type, length-map told.writers writer_type, ap length e);
      kind = ap (λ (t : TransmitKind × Payload). t.0) ty ∙ f.kind;
      payload = ap (λ (t : TransmitKind × Payload). t.1) ty ∙ f.payload;
    }

fits_reader : (stream : AStream) (told more : Tells) (r : ℕ) → map reader_type more.readers ≡ map reader_type told.readers → FitsReader stream told r → FitsReader stream more r
fits_reader stream told more r e f =
    let ty = reader_type_at told more r e in
    record {
      there = omega (arith, f.there, length-map more.readers reader_type, length-map told.readers reader_type, ap length e);
      kind = ap (λ (t : TransmitKind × Payload). t.0) ty ∙ f.kind;
      payload = ap (λ (t : TransmitKind × Payload). t.1) ty ∙ f.payload;
    }

-- fit a store alike
pub fits_by : (state : State) (told more : Tells) → SameTypes told more → Fits state told → Fits state more
fits_by state told more same fits = record {
  writers = λ n s serves. fits_writer _ told more n same.writers (fits.writers n s serves);
  readers = λ r s serves. fits_reader _ told more r same.readers (fits.readers r s serves);
}

-- READY ENDS

-- the type of a ready writer
abbrev queue_type : SendQueue → TransmitKind × Payload
queue_type queue = (queue.kind, queue.payload)

abbrev reader_queue_type : ReceiveQueue → TransmitKind × Payload
reader_queue_type queue = (queue.kind, queue.payload)

types_of_ready : (ws : List SendQueue) → map writer_type (map ready_tells ws) ≡ map queue_type ws
types_of_ready ws = map-map writer_type ready_tells ws

types_of_ready_readers : (rs : List ReceiveQueue) → map reader_type (map ready_reader_tells rs) ≡ map reader_queue_type rs
types_of_ready_readers rs = map-map reader_type ready_reader_tells rs

-- lists of the same types
pub same_types : (ws vs : List SendQueue) (rs qs : List ReceiveQueue) → map queue_type vs ≡ map queue_type ws → map reader_queue_type qs ≡ map reader_queue_type rs → SameTypes (ready_tell ws rs) (ready_tell vs qs)
same_types ws vs rs qs e f = record {
  writers = types_of_ready vs ∙ e ∙ sym (types_of_ready ws);
  readers = types_of_ready_readers qs ∙ f ∙ sym (types_of_ready_readers rs);
}

-- THE INVARIANT

-- a store without host ends
pub empty_fits : (state : State) → ((tells : Tells) → Fits state tells) → IsAmongReady (host_state state [] [])
empty_fits state fits = record { fits = fits (ready_tell [] []) }

-- a call that no host end has a part in
pub beside_fits : (old new : State) (ws : List SendQueue) (rs : List ReceiveQueue) → IsAmongReady (host_state old ws rs) → StillFits old new → IsAmongReady (host_state new ws rs)
beside_fits old new ws rs among still = record { fits = still (ready_tell ws rs) among.fits }

-- a host writer is another of its type
pub writer_fits : (state : State) (ws : List SendQueue) (rs : List ReceiveQueue) (n : ℕ) (q : SendQueue)
    → q.kind ≡ (queue_in ws n).kind → q.payload ≡ (queue_in ws n).payload
    → Fits state (ready_tell ws rs) → Fits state (ready_tell (slice_set ws n q) rs)
writer_fits state ws rs n q k p fits =
    let same : queue_type q ≡ queue_type (queue_in ws n) = cc in
    fits_by state (ready_tell ws rs) (ready_tell (slice_set ws n q) rs)
    (same_types ws (slice_set ws n q) rs rs (map-set_same queue_type ws n q (unfed Stream Nothing) same) refl) fits

-- a host reader is
pub reader_fits : (state : State) (ws : List SendQueue) (rs : List ReceiveQueue) (r : ℕ) (q : ReceiveQueue)
    → q.kind ≡ (reader_queue_in rs r).kind → q.payload ≡ (reader_queue_in rs r).payload
    → Fits state (ready_tell ws rs) → Fits state (ready_tell ws (slice_set rs r q))
reader_fits state ws rs r q k p fits =
    let same : reader_queue_type q ≡ reader_queue_type (reader_queue_in rs r) = cc in
    fits_by state (ready_tell ws rs) (ready_tell ws (slice_set rs r q))
    (same_types ws ws rs (slice_set rs r q) refl (map-set_same reader_queue_type rs r q (ungranted Stream Nothing) same)) fits

-- the records of a host writer are forgotten
pub writer_forgotten_fits : (state : State) (ws : List SendQueue) (rs : List ReceiveQueue) (n : ℕ) → Fits state (ready_tell ws rs)
    → Fits state (ready_tell (slice_set ws n (forgotten (queue_in ws n))) rs)
writer_forgotten_fits state ws rs n fits = writer_fits state ws rs n (forgotten (queue_in ws n)) refl refl fits

-- those of a host reader
pub reader_forgotten_fits : (state : State) (ws : List SendQueue) (rs : List ReceiveQueue) (r : ℕ) → Fits state (ready_tell ws rs)
    → Fits state (ready_tell ws (slice_set rs r (reader_forgotten (reader_queue_in rs r))))
reader_forgotten_fits state ws rs r fits = reader_fits state ws rs r (reader_forgotten (reader_queue_in rs r)) refl refl fits

-- and those of all
pub all_forgotten_fits : (state : State) (ws : List SendQueue) (rs : List ReceiveQueue) → Fits state (ready_tell ws rs) → Fits state (ready_tell (map forgotten ws) (map reader_forgotten rs))
all_forgotten_fits state ws rs fits =
    fits_by state (ready_tell ws rs) (ready_tell (map forgotten ws) (map reader_forgotten rs))
    (same_types ws (map forgotten ws) rs (map reader_forgotten rs) (map-map queue_type forgotten ws) (map-map reader_queue_type reader_forgotten rs)) fits

-- ONE MORE

told_more : (ws : List SendQueue) (rs : List ReceiveQueue) (q : SendQueue) (n : ℕ) → n < length ws → told_by (ready_tell (ws ++ q ∷ []) rs) n ≡ told_by (ready_tell ws rs) n
told_more ws rs q n h =
    told_ready (ws ++ q ∷ []) rs n ∙ ap ready_tells (get_or-append ws (q ∷ []) (unfed Stream Nothing) n h) ∙ sym (told_ready ws rs n)

told_more_reader : (ws : List SendQueue) (rs : List ReceiveQueue) (q : ReceiveQueue) (r : ℕ) → r < length rs → told_by_reader (ready_tell ws (rs ++ q ∷ [])) r ≡ told_by_reader (ready_tell ws rs) r
told_more_reader ws rs q r h =
    told_ready_reader ws (rs ++ q ∷ []) r (omega (arith, h, length-append rs (q ∷ []))) ∙ ap ready_reader_tells (get_or-append rs (q ∷ []) (ungranted Stream Nothing) r h) ∙ sym (told_ready_reader ws rs r h)

-- a host writer more
pub joined_fits : (state : State) (ws : List SendQueue) (rs : List ReceiveQueue) (q : SendQueue) → Fits state (ready_tell ws rs) → Fits state (ready_tell (ws ++ q ∷ []) rs)
joined_fits state ws rs q fits =
    let more = ready_tell (ws ++ q ∷ []) rs in
    record {
      writers = λ n s serves.
          let f = fits.writers n s serves in
          let there : n < length ws = omega (arith, f.there, length-map ws ready_tells) in
          let told = told_more ws rs q n there in
          record {
            there = omega (arith, there, length-map (ws ++ q ∷ []) ready_tells, length-append ws (q ∷ []));
            kind = ap (λ (t : WriterTells). t.kind) told ∙ f.kind;
            payload = ap (λ (t : WriterTells). t.payload) told ∙ f.payload;
          };
      readers = λ r s serves. let f = fits.readers r s serves in record { there = f.there; kind = f.kind; payload = f.payload };
    }

-- a host reader more
pub reader_joined_fits : (state : State) (ws : List SendQueue) (rs : List ReceiveQueue) (q : ReceiveQueue) → Fits state (ready_tell ws rs) → Fits state (ready_tell ws (rs ++ q ∷ []))
reader_joined_fits state ws rs q fits =
    record {
      writers = λ n s serves. let f = fits.writers n s serves in record { there = f.there; kind = f.kind; payload = f.payload };
      readers = λ r s serves.
          let f = fits.readers r s serves in
          let there : r < length rs = omega (arith, f.there, length-map rs ready_reader_tells) in
          let told = told_more_reader ws rs q r there in
          record {
            there = omega (arith, there, length-map (rs ++ q ∷ []) ready_reader_tells, length-append rs (q ∷ []));
            kind = ap (λ (t : ReaderTells). t.kind) told ∙ f.kind;
            payload = ap (λ (t : ReaderTells). t.payload) told ∙ f.payload;
          };
    }

-- CALLS

-- a call among the host ends leaves those that the store needs
pub among_fits : (old new : State) (tells : Tells) (ws : List SendQueue) (rs : List ReceiveQueue) (result : Result Reply StoreError) (act : Act)
    → MeetsHosted old new tells (ready_tell ws rs) result act → IsAmongReady (host_state new ws rs)
among_fits old new tells ws rs result act m = record { fits = m.fits }

-- so does one after which the records of a host writer are forgotten
pub read_fits : (old new : State) (tells : Tells) (ws : List SendQueue) (rs : List ReceiveQueue) (result : Result Reply StoreError) (act : Act) (n : ℕ)
    → MeetsHosted old new tells (ready_tell ws rs) result act → IsAmongReady (host_state new (slice_set ws n (forgotten (queue_in ws n))) rs)
read_fits old new tells ws rs result act n m = record { fits = writer_forgotten_fits new ws rs n m.fits }

-- the host readers, the records of one of them forgotten
abbrev pub with_forgotten : List ReceiveQueue → ℕ → List ReceiveQueue
with_forgotten rs r = slice_set rs r (reader_forgotten (reader_queue_in rs r))

-- or those of a host reader
pub write_fits : (old new : State) (tells : Tells) (ws : List SendQueue) (rs : List ReceiveQueue) (result : Result Reply StoreError) (act : Act) (r : ℕ)
    → MeetsHosted old new tells (ready_tell ws rs) result act → IsAmongReady (host_state new ws (with_forgotten rs r))
write_fits old new tells ws rs result act r m = record { fits = reader_forgotten_fits new ws rs r m.fits }

-- or those of all
pub drive_fits : (old new : State) (tells : Tells) (ws : List SendQueue) (rs : List ReceiveQueue) (result : Result Reply StoreError) (act : Act)
    → MeetsHosted old new tells (ready_tell ws rs) result act → IsAmongReady (host_state new (map forgotten ws) (map reader_forgotten rs))
drive_fits old new tells ws rs result act m = record { fits = all_forgotten_fits new ws rs m.fits }

-- other guests
pub guests_fit : (state : State) (guests : List Guest) (ws : List SendQueue) (rs : List ReceiveQueue)
    → IsAmongReady (host_state state ws rs) → IsAmongReady (host_state (record state { guests = guests }) ws rs)
guests_fit state guests ws rs among = record { fits = record { writers = among.fits.writers; readers = among.fits.readers } }

-- the records of the host ends of a stream are forgotten
pub pair_forgotten_fits : (state : State) (ws : List SendQueue) (rs : List ReceiveQueue) (o p : Option ℕ) → Fits state (ready_tell ws rs)
    → Fits state (ready_tell (with_writer_forgotten o ws) (with_reader_forgotten p rs))
pair_forgotten_fits state ws rs None None fits = fits
pair_forgotten_fits state ws rs (Some n) None fits = writer_forgotten_fits state ws rs n fits
pair_forgotten_fits state ws rs None (Some r) fits = reader_forgotten_fits state ws rs r fits
pair_forgotten_fits state ws rs (Some n) (Some r) fits =
    reader_forgotten_fits state (with_writer_forgotten (Some n) ws) rs r (writer_forgotten_fits state ws rs n fits)
