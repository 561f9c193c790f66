-- Lists of ready ends, seen through what they tell.
use Rattle.std.proofs.Common.{◌≡◌, ◌<◌, inl, inr, ℕ, List, map, length, sym, ◌∙◌, ap, arith}
use Rattle.std.specs.Prelude.{slice_set}
use Rattle.std.proofs.lemmas.Grind.{common_steps}
use Rattle.std.proofs.Math.ListN.{get_or-map}
use Rattle.std.proofs.Math.Seq.{set_out}
use Rattle.std.proofs.lemmas.Bool.{cases_lt}
use Rattle.std.proofs.lemmas.List.{map-set, length-map, get_or-map as get_or-map-there}
use Rattle.std.proofs.lemmas.Simd.{map-map}
use Rattle.strm_codes.specs.declared.codes.TransmitKind.TheVariants.{Stream}
use Rattle.strm_codes.specs.declared.payloads.Payload.TheVariants.{Nothing}
use Rattle.strm_buffers.specs.Tells.{WriterTells, ReaderTells, told_by, with_told, told_by_reader, with_told_reader, no_reader_tells}
use Rattle.strm_ready_ends.specs.SendQueues.{SendQueue, ready_tells, unfed, forgotten}
use Rattle.strm_ready_ends.specs.ReceiveQueues.{ReceiveQueue, ready_reader_tells, ungranted, reader_forgotten}
use Rattle.strm_host_store.specs.HostStates.{queue_in, reader_queue_in, ready_tell}
use Rattle.strm_host_store.specs.Calls.{all_forgotten, told_forgotten, reader_told_forgotten}

-- what host writer n tells
pub told_ready : (ws : List SendQueue) (rs : List ReceiveQueue) (n : ℕ) → told_by (ready_tell ws rs) n ≡ ready_tells (queue_in ws n)
told_ready ws rs n = get_or-map ready_tells ws n (unfed Stream Nothing)

-- and host reader r
pub told_ready_reader : (ws : List SendQueue) (rs : List ReceiveQueue) (r : ℕ) → r < length rs → told_by_reader (ready_tell ws rs) r ≡ ready_reader_tells (reader_queue_in rs r)
told_ready_reader ws rs r h = get_or-map-there ready_reader_tells rs r (ungranted Stream Nothing) no_reader_tells h

-- another host writer at a place
pub with_told_ready : (ws : List SendQueue) (rs : List ReceiveQueue) (n : ℕ) (q : SendQueue) → ready_tell (slice_set ws n q) rs ≡ with_told (ready_tell ws rs) n (ready_tells q)
with_told_ready ws rs n q = ap (λ (ts : List WriterTells). record { writers = ts; readers = map ready_reader_tells rs }) (map-set ready_tells ws n q)

-- and another host reader
pub with_told_ready_reader : (ws : List SendQueue) (rs : List ReceiveQueue) (r : ℕ) (q : ReceiveQueue) → ready_tell ws (slice_set rs r q) ≡ with_told_reader (ready_tell ws rs) r (ready_reader_tells q)
with_told_ready_reader ws rs r q = ap (λ (ts : List ReaderTells). record { writers = map ready_tells ws; readers = ts }) (map-set ready_reader_tells rs r q)

-- one whose records are forgotten
pub forgets_writer : (ws : List SendQueue) (rs : List ReceiveQueue) (n : ℕ)
    → ready_tell (slice_set ws n (forgotten (queue_in ws n))) rs ≡ with_told (ready_tell ws rs) n (told_forgotten (told_by (ready_tell ws rs) n))
forgets_writer ws rs n =
    with_told_ready ws rs n (forgotten (queue_in ws n))
    ∙ ap (λ (t : WriterTells). with_told (ready_tell ws rs) n (told_forgotten t)) (sym (told_ready ws rs n))

pub forgets_reader : (ws : List SendQueue) (rs : List ReceiveQueue) (r : ℕ)
    → ready_tell ws (slice_set rs r (reader_forgotten (reader_queue_in rs r))) ≡ with_told_reader (ready_tell ws rs) r (reader_told_forgotten (told_by_reader (ready_tell ws rs) r))
forgets_reader ws rs r = elim (cases_lt r (length rs)) [
  | inl h ↦
      with_told_ready_reader ws rs r (reader_forgotten (reader_queue_in rs r))
      ∙ ap (λ (t : ReaderTells). with_told_reader (ready_tell ws rs) r (reader_told_forgotten t)) (sym (told_ready_reader ws rs r h))
  | inr h ↦
      ap (λ (qs : List ReceiveQueue). ready_tell ws qs) (set_out rs r _ h)
      ∙ ap (λ (ts : List ReaderTells). record { writers = map ready_tells ws; readers = ts })
      (sym (set_out (map ready_reader_tells rs) r _ (omega (arith, h, length-map rs ready_reader_tells))))
]

-- all of which the records are forgotten
pub forgets_all : (ws : List SendQueue) (rs : List ReceiveQueue) → ready_tell (map forgotten ws) (map reader_forgotten rs) ≡ all_forgotten (ready_tell ws rs)
forgets_all ws rs =
    ap (λ (ts : List WriterTells). record { writers = ts; readers = map ready_reader_tells (map reader_forgotten rs) })
    (map-map ready_tells forgotten ws ∙ sym (map-map told_forgotten ready_tells ws))
    ∙ ap (λ (ts : List ReaderTells). record { writers = map told_forgotten (map ready_tells ws); readers = ts })
    (map-map ready_reader_tells reader_forgotten rs ∙ sym (map-map reader_told_forgotten ready_reader_tells rs))

-- what is seen of ready ends through what they tell, where one place was written
pub ruleset ready_lists = (common_steps, map-set, get_or-map-there, length-map)
