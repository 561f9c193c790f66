-- A write on a stream that a host reader reads: it opens, the reader has its turn, and it is answered.
use Rattle.std.proofs.Common.{◌≡◌, ℕ, Err, Ok, Option, refl, sym, ap, subst}
use Rattle.strm_buffers.specs.Tells.{Tells}
use Rattle.strm_machine.specs.State.{State, stream_at}
use Rattle.strm_machine.specs.Sides.{with_operation}
use Rattle.strm_machine.specs.Reactions.{with_stream_at}
use Rattle.strm_machine.specs.declared.streams.Operation.{Operation}
use Rattle.strm_machine.specs.declared.streams.Side.TheVariants.{Writing}
use Rattle.strm_machine.specs.declared.stops.Stop.{Stop}
use Rattle.strm_machine.specs.declared.replies.Reply.TheVariants as replies
use Rattle.strm_host_machine.specs.World.{World}
use Rattle.strm_host_machine.specs.Outcomes.{Outcome, then_on}
use Rattle.strm_host_machine.specs.ReaderTurn.{reader_turn}
use Rattle.strm_host_machine.specs.Settling.{turn_answered}
use Rattle.strm_host_machine.specs.Steps.{writes_to}
use Rattle.strm_host_machine.specs.Does.{Logs, world_of, Answered, Gives, Does}
use Rattle.strm_host_machine.proofs.DoesLemmas.{Does-then, Does-stop}
use Rattle.strm_host_machine.proofs.SettleLemmas.{with_stream_in-stays}

-- the state with a write open on stream s
abbrev pub opened_write : State → ℕ → Operation → State
opened_write state s write = with_stream_at state s (with_operation Writing (stream_at state s) write)

-- the reader's turn, and the answer
abbrev pub taken_and_answered : ℕ → ℕ → Operation → World → Outcome
taken_and_answered s r write world = then_on (reader_turn world s r write) (λ after. turn_answered after s Writing)

writes_to-opened : (state : State) (tells : Tells) (logs : Logs) (s r : ℕ) (write : Operation) → writes_to (world_of state tells logs) s r write ≡ taken_and_answered s r write (world_of (opened_write state s write) tells logs)
writes_to-opened state tells logs s r write =
    ap (taken_and_answered s r write) (with_stream_in-stays state tells logs s (with_operation Writing (stream_at state s) write) (record { writer = refl; reader = refl }))

pub Does-writes_to : (old new : State) (tells told : Tells) (result : Answered) (s r : ℕ) (write : Operation)
    → Does (opened_write old s write) new tells told result (taken_and_answered s r write) → Does old new tells told result (λ w. writes_to w s r write)
Does-writes_to old new tells told result s r write d = record {
  begins = d.begins;
  gives = λ logs e. subst (Gives result (world_of new told logs)) (sym (writes_to-opened old tells logs s r write)) (d.gives logs e);
  supplied = d.supplied;
  faults = d.faults;
  cause = d.cause;
}

-- the reader's turn for a write that begins
abbrev pub DoesTaking : State → State → Tells → Tells → Answered → ℕ → ℕ → Operation → Type 0
DoesTaking old mid tells told result s r write = Does (opened_write old s write) mid tells told result (λ w. reader_turn w s r write)

-- a write that the reader's turn settled, or left waiting, is answered
pub Does-write : (old mid new : State) (tells told : Tells) (s r : ℕ) (write : Operation) (result : Answered) → DoesTaking old mid tells told (Ok replies.Done) s r write → Does mid new told told result (λ w. turn_answered w s Writing)
    → Does old new tells told result (λ w. writes_to w s r write)
Does-write old mid new tells told s r write result turn answer =
    Does-writes_to old new tells told result s r write
    (Does-then (opened_write old s write) mid new tells told told replies.Done result (λ w. reader_turn w s r write) (λ w. turn_answered w s Writing) turn answer)

-- or its turn stops
pub Does-write_stop : (old new : State) (tells told : Tells) (s r : ℕ) (write : Operation) (stop : Option Stop) → DoesTaking old new tells told (Err stop) s r write
    → Does old new tells told (Err stop) (λ w. writes_to w s r write)
Does-write_stop old new tells told s r write stop turn =
    Does-writes_to old new tells told (Err stop) s r write
    (Does-stop (opened_write old s write) new tells told stop (λ w. reader_turn w s r write) (λ w. turn_answered w s Writing) turn)
