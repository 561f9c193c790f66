-- What a host reader with a credit tells, what it does in a poll, and what a grant adds. Ours.
use Rattle.std.specs.Prelude.{◌≡◌, ℕ, ◌+◌, ◌-◌, ◌^◌, ◌==◌, min, Bool, true, false, ◌&&◌, ◌||◌, nat_lt, if◌then◌else◌, [], map, Some, None}
use Rattle.strm_codes.specs.declared.codes.TransmitKind.{TransmitKind}
use Rattle.strm_codes.specs.declared.codes.TransmitKind.TheVariants.{Stream, Future}
use Rattle.strm_codes.specs.declared.payloads.Payload.{Payload}
use Rattle.strm_codes.specs.declared.codes.StreamResult.{StreamResult}
use Rattle.strm_buffers.specs.declared.answers.Turn.{Turn}
use Rattle.strm_buffers.specs.declared.answers.Answer.{Answer}
use Rattle.strm_buffers.specs.declared.answers.Answer.TheVariants.{Pending, Completed, Cancelled, Dropped}
use Rattle.strm_buffers.specs.Offers.{Offered, items_lent, after_taking}
use Rattle.strm_buffers.specs.Said.{IfAnswered}
use Rattle.strm_buffers.specs.Tells.{ReaderTells}
use Rattle.strm_program_ends.specs.declared.credit_reader.CreditReader.{CreditReader}

-- what it tells: not the items that it took
abbrev pub credit_tells : CreditReader → ReaderTells
credit_tells reader =
    record {
      kind = reader.kind;
      payload = reader.payload;
      said = reader.said.items;
      holds = None;
      faults = 0;
      closed = reader.closed;
      heard = Some (map (λ grant. (grant.records, grant.count)) reader.heard.items);
    }

-- what it tells before its first poll and its first grant
abbrev pub ungranted : TransmitKind → Payload → ReaderTells
ungranted kind payload =
    record { kind = kind; payload = payload; said = []; holds = None; faults = 0; closed = false; heard = Some [] }

-- the credit after a grant of so many: it stands still at 2^64 - 1
abbrev pub with_credit : ℕ → ℕ → ℕ
with_credit credit count = min (credit + count) (2 ^ 64 - 1)

-- of a stream, not of a future
abbrev pub is_stream : TransmitKind → Bool
is_stream Stream = true
is_stream Future = false

-- what it answers with this credit left, ended or not, after it took so many of the items offered:
-- Dropped where nothing can come any more, Completed where it took some or has credit for more than
-- was offered, and else by whether it was asked to finish
abbrev pub credit_answer : TransmitKind → ℕ → Bool → ℕ → ℕ → Bool → Answer
credit_answer kind credit ended offered taken finish =
    if is_stream kind && ((credit == 0) && ended) then Dropped
    else if nat_lt 0 taken || (is_stream kind && ((offered == 0) && nat_lt 0 credit)) then Completed
    else if finish then Cancelled
    else Pending

-- what it does in a poll: it takes what it has credit for, up to a bad item, its credit falls by that,
-- and it answers by what is left of it
pub record TakesByCredit (old new : CreditReader) (before after : Offered) (finish : Bool) (turn : Turn StreamResult) : Type 0 where
  pub takes : IfAnswered turn (λ _. after ≡ after_taking old.credit before)
  pub credit : new.credit ≡ old.credit - after.taken
  pub ended : new.is_ended ≡ old.is_ended
  pub answers : IfAnswered turn (λ answer. answer ≡ credit_answer old.kind new.credit old.is_ended (items_lent before.source) after.taken finish)
