-- A poll of a ready host writer that holds nothing, as a poll for a read.
use Rattle.std.proofs.Common.{◌≡◌, ◌≢◌, ℕ, false, List, [], length, take, Some, Ok, Err, refl, sym, ap, ◌∙◌, arith}
use Rattle.std.specs.Prelude.{◌||◌, nat_lt}
use Rattle.std.proofs.Math.Seq.{take-nil, drop-nil}
use Rattle.strm_codes.specs.declared.payloads.Payload.{Payload}
use Rattle.strm_buffers.specs.declared.answers.Answer.{Answer}
use Rattle.strm_buffers.specs.declared.answers.Answer.TheVariants.{Pending, Completed, Cancelled, Dropped, Failed}
use Rattle.strm_buffers.specs.Tells.{RisesOnFailed, PollsWriter}
use Rattle.strm_machine.specs.State.{Guest}
use Rattle.strm_machine.specs.declared.streams.Side.TheVariants.{Reading}
use Rattle.strm_machine.specs.declared.streams.Operation.{Operation}
use Rattle.strm_machine.specs.declared.streams.Producer.{Producer}
use Rattle.strm_machine.specs.declared.streams.Stream.{Stream}
use Rattle.strm_host_machine.specs.Polls.{is_failed}
use Rattle.strm_host_machine.specs.Settling.{moved_on}
use Rattle.strm_host_machine.specs.WriterTurn.{is_last, produced_result}
use Rattle.strm_host_turns.specs.WriterPolls.{PollsInto}
use Rattle.strm_host_turns.specs.WriterTurns.{WriterScene, writer_scene, writer_verdict, IsWriterPoll}
use Rattle.strm_host_turns.specs.declared.writer_turns.WriterStops.{WriterStops}
use Rattle.strm_host_turns.specs.declared.writer_turns.WriterStops.TheVariants.{OutOfMemory}
use Rattle.strm_host_turns.proofs.RegionLemmas.{lowered_items-none}
use Rattle.strm_host_turns.proofs.WriterTurnLemmas.{judged_stops, judged_passes}
use Rattle.strm_ready_ends.specs.SendQueues.{SendQueue, ready_tells, empty_answer, empty_record, polled}
use Rattle.strm_ready_ends.proofs.RuleLemmas.{empty_is_no_fault}

-- one that does not fail raises no count of faults
pub no_fault_rises : (answer : Answer) (faults : ℕ) → answer ≢ Failed → RisesOnFailed answer faults faults
no_fault_rises Pending faults e = omega arith
no_fault_rises Completed faults e = omega arith
no_fault_rises Cancelled faults e = omega arith
no_fault_rises Dropped faults e = omega arith
no_fault_rises Failed faults e = absurd (e refl)

pub no_fault : (answer : Answer) → answer ≢ Failed → is_failed answer ≡ false
no_fault Pending e = refl
no_fault Completed e = refl
no_fault Cancelled e = refl
no_fault Dropped e = refl
no_fault Failed e = absurd (e refl)

module _ (queue : SendQueue) (guests : List Guest) (payload : Payload) (read : Operation) (empty : queue.items ≡ []) where
  -- what it tells after the poll
  abbrev told : SendQueue
  told = polled queue (Some read.left) read.asked

  polls_for : PollsWriter (ready_tells queue) (ready_tells told) (empty_record queue (Some read.left) read.asked) (take read.left [])
  polls_for = record {
    said_more = refl;
    fits = tt;
    marks = refl;
    holds = empty ∙ sym (drop-nil read.left);
    faults = no_fault_rises (empty_answer queue.kind queue.ended read.asked) 0 (empty_is_no_fault queue.kind queue.ended read.asked);
    closed = refl;
    heard = refl;
    kind = refl;
    payload = refl;
  }

  -- it produces nothing, and lowers nothing
  pub empty_poll : PollsInto (ready_tells queue) (ready_tells told) guests guests payload read (empty_answer queue.kind queue.ended read.asked) 0
  empty_poll = record {
    said = empty_record queue (Some read.left) read.asked;
    answer_is = refl;
    polled = record { polls = polls_for; room = refl; finish = refl };
    received_is = sym (ap length (take-nil read.left));
    lowers = rw (take-nil read.left) (sym (lowered_items-none guests payload read));
  }

-- WHAT COMES OF IT

-- memory had run out, and nothing has changed
pub empty_runs_out : (guests : List Guest) (stream : Stream) (producer : Producer) (queue new : SendQueue) (read : Operation) → new ≡ queue
    → IsWriterPoll (Err OutOfMemory) (writer_scene guests stream producer (ready_tells queue)) (writer_scene guests stream producer (ready_tells new)) read
empty_runs_out guests stream producer queue new read e = (
  [],
  rw e (record {
    tells = record { said = refl; holds = refl; faults = omega arith; closed = refl; heard = refl; kind = refl; payload = refl };
    stopped = record {
      few = omega arith;
      after = ap (λ g. writer_scene g stream producer (ready_tells queue)) (sym (lowered_items-none guests stream.payload read));
    };
  }),
)

module _ (queue : SendQueue) (guests : List Guest) (stream : Stream) (producer : Producer) (read : Operation) (empty : queue.items ≡ []) (new : SendQueue) (answer : Answer) where
  -- the poll that was done, and its answer
  pub record IsDone : Type 0 where
    pub polled_is : new ≡ polled queue (Some read.left) read.asked
    pub answer_is : answer ≡ empty_answer queue.kind queue.ended read.asked

  into : IsDone → PollsInto (ready_tells queue) (ready_tells new) guests guests stream.payload read answer 0
  into d = rw (d.polled_is, d.answer_is) (empty_poll queue guests stream.payload read empty)

  holds_none : IsDone → 0 ≡ length (ready_tells new).holds
  holds_none d = rw d.polled_is (sym (ap length empty))

  abbrev before : WriterScene
  before = writer_scene guests stream producer (ready_tells queue)

  -- the step stops
  pub empty_stops : (error : WriterStops) → IsDone → writer_verdict stream.kind answer read 0 ≡ Err error → IsWriterPoll (Err error) before (writer_scene guests stream producer (ready_tells new)) read
  empty_stops error d e = judged_stops guests guests stream producer (ready_tells queue) (ready_tells new) read answer 0 0 (into d) (holds_none d) error e

  -- the stream, once its read is settled by the answer
  abbrev settled : Stream
  settled = moved_on Reading stream read 0 (produced_result answer [])

  -- what is kept of the writer
  abbrev noted : Producer
  noted = record producer { over = producer.over || is_last answer; holding = nat_lt 0 0 }

  -- the step goes on
  pub empty_passes : (moved : Stream) (kept : Producer) → IsDone → writer_verdict stream.kind answer read 0 ≡ Ok tt → moved ≡ settled → kept ≡ noted → IsWriterPoll (Ok tt) before (writer_scene guests moved kept (ready_tells new)) read
  empty_passes moved kept d e m k =
      judged_passes guests guests stream producer (ready_tells queue) (ready_tells new) read answer 0 0 (into d) (holds_none d) moved kept e (m ∙ rw (d.polled_is, empty) refl) k
