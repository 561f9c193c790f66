-- The close of a box with its duty ended is the machine's close.
use Rattle.std.proofs.Common.{◌≡◌, ℕ, zero, suc, ◌<◌, Bool, true, List, [], ◌∷◌, length, drop, refl, sym, ap, ◌∙◌, arith}
use Rattle.std.specs.Prelude.{slice_set}
use Rattle.strm_codes.specs.declared.codes.TransmitKind.{TransmitKind}
use Rattle.strm_codes.specs.declared.payloads.Payload.{Payload}
use Rattle.strm_buffers.specs.Said.{WriterSaid}
use Rattle.strm_buffers.specs.Tells.{Heard, WriterTells, Tells, no_tells, told_by, with_told, ClosesWriter}
use Rattle.strm_machine.specs.State.{State, producer_at}
use Rattle.strm_machine.specs.declared.streams.Duty.{Duty}
use Rattle.strm_machine.specs.declared.streams.Duty.TheVariants.{Ended}
use Rattle.strm_machine.specs.declared.streams.Producer.{Producer}
use Rattle.strm_host_machine.specs.Ends.{closed_writer}
use Rattle.strm_host_machine.specs.World.{World, writer_at, without_writer}
use Rattle.strm_host_machine.specs.Does.{Logs, first_duty, first_log, writer_of, writers_from, world_of}
use Rattle.strm_host_machine.proofs.WorldLemmas.{Saids, log_of, drop_one, writer_in-from, writer_made}

-- a writer with another duty that tells something else
pub writers_from-both : (ps : List Producer) (ws : List WriterTells) (logs : Saids) (n : ℕ) (p : Producer) (w : WriterTells)
    → n < length ps → n < length ws → writers_from (slice_set ps n p) (slice_set ws n w) logs ≡ slice_set (writers_from ps ws logs) n (writer_of p.duty w (log_of logs n))
writers_from-both [] ws logs n p w k l = absurd (omega (arith, k))
writers_from-both (q ∷ ps) [] logs n p w k l = absurd (omega (arith, l))
writers_from-both (q ∷ ps) (x ∷ ws) logs zero p w k l = refl
writers_from-both (q ∷ ps) (x ∷ ws) logs (suc n) p w k l =
    ap (λ more. writer_of q.duty x (first_log logs) ∷ more)
    (writers_from-both ps ws (drop 1 logs) n p w (omega (arith, k)) (omega (arith, l))
    ∙ ap (λ d. slice_set (writers_from ps ws (drop 1 logs)) n (writer_of p.duty w (first_log d))) (drop_one n logs))

same_closed : {k l : TransmitKind} {p q : Payload} {c d : List WriterSaid} {m n : ℕ} {a b : Bool} {x y : Heard (List ℕ)} → k ≡ l → p ≡ q → c ≡ d → m ≡ n → a ≡ b → x ≡ y
    → writer_made k p [] c m a true x ≡ writer_made l q [] d n b true y
same_closed e f g h i j = cc

-- a writer that was closed, as its duty ended
closed-writer_of : (duty : Duty) (old new : WriterTells) (log : List WriterSaid) → ClosesWriter old new → writer_of Ended new log ≡ closed_writer (writer_of duty old log)
closed-writer_of duty old new log c =
    let kind : new.kind ≡ old.kind = ap (λ (w : WriterTells). w.kind) c.same in
    let payload : new.payload ≡ old.payload = ap (λ (w : WriterTells). w.payload) c.same in
    let said : new.said ≡ old.said = ap (λ (w : WriterTells). w.said) c.same in
    let heard : new.heard ≡ old.heard = ap (λ (w : WriterTells). w.heard) c.same in
    same_closed kind payload (ap (λ (xs : List WriterSaid). drop (length xs) log) said) (ap length said) c.closed heard

-- what is kept of a host writer that is gone
abbrev pub ended_producer : State → ℕ → Producer
ended_producer state n = record (producer_at state n) { duty = Ended }

-- the state in which host writer n is gone
abbrev pub ended_in : State → ℕ → State
ended_in state n = record state { producers = slice_set state.producers n (ended_producer state n) }

module _ (state : State) (tells : Tells) (logs : Logs) (n : ℕ) (w : WriterTells) (k : n < length state.producers) (l : n < length tells.writers)
    (c : ClosesWriter (told_by tells n) w) where
  abbrev before : World
  before = world_of state tells logs

  abbrev log : List WriterSaid
  log = first_log (drop n logs.writers)

  end_is : writer_of Ended w log ≡ closed_writer (writer_at before n)
  end_is =
      closed-writer_of (first_duty (drop n state.producers)) (told_by tells n) w log c
      ∙ ap closed_writer (sym (writer_in-from state.producers tells.writers logs.writers n no_tells l))

  -- what the store keeps of it and the box changed together
  pub without_writer-box : without_writer before n ≡ world_of (ended_in state n) (with_told tells n w) logs
  without_writer-box =
      ap (λ v. record before { state = ended_in state n; writers = slice_set before.writers n v }) (sym end_is)
      ∙ ap (λ ws. record before { state = ended_in state n; writers = ws })
      (sym (writers_from-both state.producers tells.writers logs.writers n (ended_producer state n) w k l))
