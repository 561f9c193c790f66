-- What a scripted host reader does, what it tells, and how often it failed. Ours.
use Rattle.std.specs.Prelude.{◌≡◌, ℕ, ◌+◌, List, [], ◌∷◌, length, slice_index_or, false, Some, None}
use Rattle.strm_codes.specs.declared.codes.TransmitKind.{TransmitKind}
use Rattle.strm_codes.specs.declared.payloads.Payload.{Payload}
use Rattle.strm_codes.specs.declared.codes.StreamResult.{StreamResult}
use Rattle.strm_buffers.specs.declared.answers.Turn.{Turn}
use Rattle.strm_buffers.specs.declared.answers.Answer.TheVariants.{Pending}
use Rattle.strm_buffers.specs.declared.answers.ReaderSaid.{ReaderSaid}
use Rattle.strm_buffers.specs.Offers.{Offered, after_taking}
use Rattle.strm_buffers.specs.Said.{IfAnswered}
use Rattle.strm_buffers.specs.Tells.{ReaderTells}
use Rattle.strm_program_ends.specs.Scripts.{faults_of_answer}
use Rattle.strm_program_ends.specs.Kept.{items_kept}
use Rattle.strm_program_ends.specs.declared.scripted_reader.ReaderTurn.{ReaderTurn}
use Rattle.strm_program_ends.specs.declared.scripted_reader.ScriptedReader.{ScriptedReader}

-- how many of these polls failed
abbrev pub reader_faults : List ReaderSaid → ℕ
reader_faults [] = 0
reader_faults (said ∷ saids) = faults_of_answer said.answer + reader_faults saids

-- the turn after so many: past the last one none is taken, and Pending is answered
abbrev pub turn_after : List ReaderTurn → ℕ → ReaderTurn
turn_after turns done = slice_index_or turns done (record { take = 0; answer = Pending })

-- what a scripted reader tells
abbrev pub scripted_reader_tells : ScriptedReader → ReaderTells
scripted_reader_tells r =
    record {
      kind = r.kind;
      payload = r.payload;
      said = r.said.items;
      holds = items_kept r.keeps r.payload r.kept.items r.said.items;
      faults = reader_faults r.said.items;
      closed = r.closed;
      heard = None;
    }

-- what it tells before its first poll
abbrev pub unpolled_reader : TransmitKind → Payload → ReaderTells
unpolled_reader kind payload =
    record { kind = kind; payload = payload; said = []; holds = Some []; faults = 0; closed = false; heard = None }

-- and where it does not keep what it takes
abbrev pub unpolled_discarding : TransmitKind → Payload → ReaderTells
unpolled_discarding kind payload = record (unpolled_reader kind payload) { holds = None }

-- the turn that its next poll does: that of its place among the polls
abbrev pub turn_due : ScriptedReader → ReaderTurn
turn_due reader = turn_after reader.turns.items (length reader.said.items)

-- what it does in a poll: the turn that is due, and its turns stay
pub record DoesTurn (old new : ScriptedReader) (before after : Offered) (turn : Turn StreamResult) : Type 0 where
  pub takes : IfAnswered turn (λ _. after ≡ after_taking (turn_due old).take before)
  pub answers : IfAnswered turn (λ answer. answer ≡ (turn_due old).answer)
  pub turns : new.turns ≡ old.turns
