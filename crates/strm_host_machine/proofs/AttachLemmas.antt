-- A host writer that gets a stream, and one that bytes are passed on to.
use Rattle.std.proofs.Common.{◌≡◌, ℕ, zero, suc, ◌<◌, List, [], ◌∷◌, ◌++◌, length, drop, Ok, refl, sym, ap, ◌∙◌, arith}
use Rattle.std.specs.Prelude.{slice_set, slice_index_or}
use Rattle.strm_buffers.specs.Said.{WriterSaid}
use Rattle.strm_buffers.specs.Tells.{WriterTells, Tells, no_tells, told_by, with_told, writer_fed}
use Rattle.strm_machine.specs.State.{State, no_producer, producer_at}
use Rattle.strm_machine.specs.declared.acts.HostAct.TheVariants.{Feed}
use Rattle.strm_machine.specs.declared.streams.Duty.{Duty}
use Rattle.strm_machine.specs.declared.streams.Duty.TheVariants.{Unused, Serves}
use Rattle.strm_machine.specs.declared.streams.Producer.{Producer}
use Rattle.strm_machine.specs.declared.streams.Stream.{Stream}
use Rattle.strm_machine.specs.declared.replies.Reply.TheVariants as replies
use Rattle.strm_host_machine.specs.Ends.{Writer, fed_writer}
use Rattle.strm_host_machine.specs.World.{World, writer_at, with_producer, with_writer}
use Rattle.strm_host_machine.specs.Outcomes.{Goes, done}
use Rattle.strm_host_machine.specs.Attaching.{hosted_stream, with_new_stream, new_producer, hosts_new}
use Rattle.strm_host_machine.specs.Steps.{on_host}
use Rattle.strm_host_machine.specs.Does.{Logs, first_log, first_duty, writer_of, writers_from, world_of, Does}
use Rattle.strm_host_machine.proofs.WorldLemmas.{writer_in-from, writers_from-set}
use Rattle.strm_host_machine.proofs.GrowLemmas.{grows-same, Does-told}
use Rattle.strm_host_machine.proofs.DoesLemmas.{Does-untold}

-- an unused writer that serves is the same to the machine
served_same : (duty : Duty) (s : ℕ) (x : WriterTells) (log : List WriterSaid) → duty ≡ Unused → writer_of (Serves s) x log ≡ writer_of duty x log
served_same duty s x log e = sym (ap (λ d. writer_of d x log) e)

writers_from-served : (ps : List Producer) (ws : List WriterTells) (logs : List (List WriterSaid)) (n s : ℕ) (p : Producer) → p.duty ≡ Serves s → (slice_index_or ps n no_producer).duty ≡ Unused
    → writers_from (slice_set ps n p) ws logs ≡ writers_from ps ws logs
writers_from-served [] ws logs n s p e u = refl
writers_from-served (q ∷ ps) [] logs n s p e u = refl
writers_from-served (q ∷ ps) (x ∷ ws) logs zero s p e u =
    ap (λ w. w ∷ writers_from ps ws (drop 1 logs)) (ap (λ d. writer_of d x (first_log logs)) e ∙ served_same q.duty s x (first_log logs) u)
writers_from-served (q ∷ ps) (x ∷ ws) logs (suc n) s p e u =
    ap (λ more. writer_of q.duty x (first_log logs) ∷ more) (writers_from-served ps ws (drop 1 logs) n s p e u)

-- the stream of a host writer that tells this
abbrev pub hosted_by : WriterTells → ℕ → Stream
hosted_by tells n = hosted_stream (writer_of Unused tells []) n

-- what is kept of a host writer that tells this and gets stream s
abbrev pub hosting_by : WriterTells → ℕ → Producer
hosting_by tells s = new_producer s (writer_of Unused tells [])

-- the state with a stream more, of host writer n
abbrev pub hosted_in : State → Tells → ℕ → State
hosted_in state tells n = record state {
  streams = state.streams ++ hosted_by (told_by tells n) n ∷ [];
  producers = slice_set state.producers n (hosting_by (told_by tells n) (length state.streams));
}

unused_first : (ps : List Producer) (n : ℕ) → (slice_index_or ps n no_producer).duty ≡ Unused → first_duty (drop n ps) ≡ Unused
unused_first [] zero u = refl
unused_first [] (suc n) u = refl
unused_first (p ∷ ps) zero u = u
unused_first (p ∷ ps) (suc n) u = unused_first ps n u

-- a writer gets a stream
pub Does-hosts_new : (state : State) (tells : Tells) (n : ℕ) → n < length tells.writers → (producer_at state n).duty ≡ Unused
    → Does state (hosted_in state tells n) tells tells (Ok (replies.Number (length state.streams))) (λ w. hosts_new w n)
unfolding hosts_new
Does-hosts_new state tells n l u =
    Does-untold state (hosted_in state tells n) tells (Ok (replies.Number (length state.streams))) (λ w. hosts_new w n)
    (λ logs. ap (λ w. Goes (replies.Number (length state.streams)) (hosted_as logs w)) (writer_in-from state.producers tells.writers logs.writers n no_tells l)
    ∙ ap (λ d. Goes (replies.Number (length state.streams)) (hosted_as logs (writer_of d (told_by tells n) (first_log (drop n logs.writers))))) (unused_first state.producers n u)
    ∙ ap (λ ws. Goes (replies.Number (length state.streams)) (record (world_of state tells logs) { state = hosted_in state tells n; writers = ws }))
    (sym (writers_from-served state.producers tells.writers logs.writers n (length state.streams) (hosting_by (told_by tells n) (length state.streams)) refl u)))
    tt
  where
    -- the world with its stream, by what the machine knows of it
    hosted_as : Logs → Writer → World
    hosted_as logs w = with_new_stream (with_producer (world_of state tells logs) n (new_producer (length state.streams) w)) (hosted_stream w n)

-- BYTES FROM OUTSIDE

writer_fed-at : (state : State) (tells : Tells) (logs : Logs) (n : ℕ) (bytes : List ℕ) → n < length tells.writers
    → with_writer (world_of state tells logs) n (fed_writer (writer_at (world_of state tells logs) n) bytes) ≡ world_of state (with_told tells n (writer_fed (told_by tells n) bytes)) logs
writer_fed-at state tells logs n bytes l =
    ap (λ w. with_writer (world_of state tells logs) n (fed_writer w bytes)) (writer_in-from state.producers tells.writers logs.writers n no_tells l)
    ∙ ap (λ ws. record (world_of state tells logs) { writers = ws }) (sym (writers_from-set state.producers tells.writers logs.writers n (writer_fed (told_by tells n) bytes) l))

-- a writer is fed
pub Does-feed : (state : State) (tells : Tells) (n : ℕ) (bytes : List ℕ) → n < length tells.writers
    → Does state state tells (with_told tells n (writer_fed (told_by tells n) bytes)) (Ok replies.Done) (λ w. on_host w n (Feed bytes))
Does-feed state tells n bytes l =
    Does-told state state tells n (writer_fed (told_by tells n) bytes) (Ok replies.Done) (λ w. on_host w n (Feed bytes)) l
    (grows-same (told_by tells n) (writer_fed (told_by tells n) bytes) refl refl (omega arith))
    (λ logs e. ap done (writer_fed-at state tells logs n bytes l)) tt
