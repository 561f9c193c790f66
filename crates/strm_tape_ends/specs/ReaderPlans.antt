-- Host readers that follow a tape. Ours.
use Rattle.std.specs.Prelude.{◌≡◌, ℕ, ◌+◌, ◌-◌, ◌^◌, min, Bool, true, false, List, length}
use Rattle.strm_buffers.specs.declared.answers.ReaderSaid.{ReaderSaid}
use Rattle.strm_codes.specs.declared.codes.StreamResult.{StreamResult}
use Rattle.strm_buffers.specs.declared.answers.Turn.{Turn}
use Rattle.strm_buffers.specs.Offers.{Offered, after_taking}
use Rattle.strm_buffers.specs.Said.{IfAnswered}
use Rattle.strm_buffers.specs.Tells.{ReaderTells}
use Rattle.strm_program_ends.specs.Takings.{scripted_reader_tells, turn_after}
use Rattle.strm_program_ends.specs.declared.scripted_reader.ReaderTurn.{ReaderTurn}
use Rattle.strm_tape_ends.specs.declared.replay_reader.ReplayReader.{ReplayReader}

-- one item more is asked for where one was none
abbrev pub asked_for : Bool → ℕ → ℕ
asked_for true taken = min (taken + 1) (2 ^ 32 - 1)
asked_for false taken = taken

-- the turn that makes such a record: as many items are taken, and one more is asked for where it was none
abbrev pub scripted_turn_for : ReaderSaid → ReaderTurn
scripted_turn_for said = record { take = asked_for said.bad said.taken; answer = said.answer }

-- the turns of a replay reader, one a poll from the first
abbrev pub plan_of_reader : ReplayReader → List ReaderTurn
plan_of_reader r = r.end.turns.items

-- what a replay reader tells
abbrev pub replay_reader_tells : ReplayReader → ReaderTells
replay_reader_tells r = scripted_reader_tells r.end

-- the turn that its next poll does: that of its place among the polls
abbrev pub planned_turn : ReplayReader → ReaderTurn
planned_turn r = turn_after (plan_of_reader r) (length (replay_reader_tells r).said)

-- what it does in a poll: it follows the record of its place among the polls, and its plan stays
pub record FollowsTurn (old new : ReplayReader) (before after : Offered) (turn : Turn StreamResult) : Type 0 where
  pub takes : IfAnswered turn (λ _. after ≡ after_taking (planned_turn old).take before)
  pub answers : IfAnswered turn (λ answer. answer ≡ (planned_turn old).answer)
  pub plan : plan_of_reader new ≡ plan_of_reader old
