-- A read on a stream that a host writer writes: it opens, the writer has its turn, and it is answered.
use Rattle.std.proofs.Common.{◌≡◌, ℕ, Err, Ok, Option, refl, sym, ap, subst}
use Rattle.strm_buffers.specs.Tells.{Tells}
use Rattle.strm_machine.specs.State.{State, stream_at}
use Rattle.strm_machine.specs.Sides.{with_operation}
use Rattle.strm_machine.specs.Reactions.{with_stream_at}
use Rattle.strm_machine.specs.declared.streams.Operation.{Operation}
use Rattle.strm_machine.specs.declared.streams.Side.TheVariants.{Reading}
use Rattle.strm_host_machine.specs.World.{World}
use Rattle.strm_host_machine.specs.Outcomes.{Outcome, then_on}
use Rattle.strm_host_machine.specs.WriterTurn.{writer_turn}
use Rattle.strm_host_machine.specs.Settling.{turn_answered}
use Rattle.strm_host_machine.specs.Steps.{reads_from}
use Rattle.strm_machine.specs.declared.replies.Reply.TheVariants as replies
use Rattle.strm_machine.specs.declared.stops.Stop.{Stop}
use Rattle.strm_host_machine.proofs.DoesLemmas.{Does-then, Does-stop}
use Rattle.strm_host_machine.specs.Does.{Logs, world_of, Answered, Gives, Does}
use Rattle.strm_host_machine.proofs.SettleLemmas.{with_stream_in-stays}

-- the state with a read open on stream s
abbrev pub opened : State → ℕ → Operation → State
opened state s read = with_stream_at state s (with_operation Reading (stream_at state s) read)

-- the writer's turn, and the answer
abbrev pub turned_and_answered : ℕ → ℕ → Operation → World → Outcome
turned_and_answered s n read world = then_on (writer_turn world s n read) (λ after. turn_answered after s Reading)

reads_from-opened : (state : State) (tells : Tells) (logs : Logs) (s n : ℕ) (read : Operation) → reads_from (world_of state tells logs) s n read ≡ turned_and_answered s n read (world_of (opened state s read) tells logs)
reads_from-opened state tells logs s n read =
    ap (turned_and_answered s n read) (with_stream_in-stays state tells logs s (with_operation Reading (stream_at state s) read) (record { writer = refl; reader = refl }))

pub Does-reads_from : (old new : State) (tells told : Tells) (result : Answered) (s n : ℕ) (read : Operation)
    → Does (opened old s read) new tells told result (turned_and_answered s n read) → Does old new tells told result (λ w. reads_from w s n read)
Does-reads_from old new tells told result s n read d = record {
  begins = d.begins;
  gives = λ logs e.
      subst (Gives result (world_of new told logs)) (sym (reads_from-opened old tells logs s n read)) (d.gives logs e);
  supplied = d.supplied;
  faults = d.faults;
  cause = d.cause;
}

-- the writer's turn for a read that begins
abbrev pub DoesTurn : State → State → Tells → Tells → Answered → ℕ → ℕ → Operation → Type 0
DoesTurn old mid tells told result s n read = Does (opened old s read) mid tells told result (λ w. writer_turn w s n read)

-- a read that the writer's turn settled, or left waiting, is answered
pub Does-read : (old mid new : State) (tells told : Tells) (s n : ℕ) (read : Operation) (result : Answered) → DoesTurn old mid tells told (Ok replies.Done) s n read → Does mid new told told result (λ w. turn_answered w s Reading)
    → Does old new tells told result (λ w. reads_from w s n read)
Does-read old mid new tells told s n read result turn answer =
    Does-reads_from old new tells told result s n read
    (Does-then (opened old s read) mid new tells told told replies.Done result (λ w. writer_turn w s n read) (λ w. turn_answered w s Reading) turn answer)

-- or its turn stops
pub Does-read_stop : (old new : State) (tells told : Tells) (s n : ℕ) (read : Operation) (stop : Option Stop) → DoesTurn old new tells told (Err stop) s n read
    → Does old new tells told (Err stop) (λ w. reads_from w s n read)
Does-read_stop old new tells told s n read stop turn =
    Does-reads_from old new tells told (Err stop) s n read
    (Does-stop (opened old s read) new tells told stop (λ w. writer_turn w s n read) (λ w. turn_answered w s Reading) turn)
