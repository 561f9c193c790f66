-- Worked runs in which a write end moves, computed.
use Rattle.std.proofs.Common.{◌≡◌, List, [], ◌∷◌, Some, None}
use Rattle.strm_machine.specs.declared.steps.Step.{Step}
use Rattle.strm_machine.specs.declared.steps.Step.TheVariants as steps
use Rattle.strm_machine.specs.declared.replies.Reply.TheVariants as replies
use Rattle.strm_codes.specs.declared.codes.ReturnCode.TheVariants.{Blocked, Completed, Dropped, Cancelled}
use Rattle.strm_codes.specs.declared.codes.TransmitIndex.{TransmitIndex}
use Rattle.strm_codes.specs.declared.codes.TransmitIndex.TheVariants as index
use Rattle.strm_codes.specs.declared.payloads.Payload.TheVariants.{One}
use Rattle.strm_codes.specs.declared.scalars.Scalar.TheVariants.{Bool}
use Rattle.strm_codes.specs.declared.refusals.Refusal.TheVariants as refusals
use Rattle.strm_memory.specs.Items.{items, stored}
use Rattle.strm_memory.specs.Loads.{decode, encode}
use Rattle.strm_machine.specs.Operating.{operate}
use Rattle.strm_machine.specs.Endings.{delivered, dropped, cancelled}
use Rattle.strm_machine.specs.Making.{with_stream}
use Rattle.strm_machine.specs.Reactions.{performs}
use Rattle.strm_machine.specs.Moments.{decoded}
use Rattle.strm_laws.specs.Conservation.{handed, all_handed}
use Rattle.strm_laws.proofs.Answered.{AllGive}
use Rattle.strm_laws.proofs.Rows.{bytes, start, item, call, replies_to, replies-by, account, account-by, apart, in_none, in_no_more}

-- ## A second writer

-- a write end that goes to the reader's guest once its write was told. What the second owner writes
-- comes from its own memory, behind what the first one wrote; before, the end was busy
abbrev written_on : List Step
written_on =
    steps.Guest 16
    ∷ steps.Guest 16
    ∷ steps.Between 0 1 bytes
    ∷ steps.Poke 0 0 (1 ∷ 2 ∷ [])
    ∷ steps.Poke 1 8 (3 ∷ 4 ∷ [])
    ∷ steps.Write 0 bytes 1 0 2
    ∷ steps.Move 0 bytes 1 1
    ∷ steps.Read 1 bytes 1 0 2
    ∷ steps.Move 0 bytes 1 1
    ∷ steps.Event 0 1
    ∷ steps.Move 0 bytes 1 1
    ∷ steps.Write 0 bytes 1 0 1
    ∷ steps.Write 1 bytes 2 8 2
    ∷ steps.Read 1 bytes 1 2 2
    ∷ steps.Dump 1 0 4
    ∷ []

gives-written_on : AllGive start (apart written_on)
unfolding performs with_stream operate delivered dropped decode encode items stored
gives-written_on = (in_none 1, (in_none 1, (in_none 1, tt)))

replies_to-written_on : replies_to written_on ≡
    replies.Number 0
    ∷ replies.Number 1
    ∷ replies.Pair (record { read = 1; write = 1; stream = 0 })
    ∷ replies.Done
    ∷ replies.Done
    ∷ replies.Code Blocked
    ∷ replies.Refused refusals.Busy
    ∷ replies.Code (Completed 2)
    ∷ replies.Refused refusals.Busy
    ∷ replies.Event (Some (Completed 2))
    ∷ replies.Number 2
    ∷ replies.Refused refusals.UnknownHandle
    ∷ replies.Code Blocked
    ∷ replies.Code (Completed 2)
    ∷ replies.Bytes (1 ∷ 2 ∷ 3 ∷ 4 ∷ [])
    ∷ []
unfolding performs with_stream operate delivered dropped decode encode items stored
replies_to-written_on = replies-by (apart written_on) gives-written_on

account-written_on : account 0 written_on ≡ record {
  written = call 0 0 2 (Some (Completed 2)) ∷ call 1 8 2 None ∷ [];
  read = call 1 0 2 (Some (Completed 2)) ∷ call 1 2 2 (Some (Completed 2)) ∷ [];
  count = 4;
  taken = item 1 ∷ item 2 ∷ item 3 ∷ item 4 ∷ [];
  given = item 1 ∷ item 2 ∷ item 3 ∷ item 4 ∷ [];
}
unfolding performs with_stream operate delivered dropped decode encode items stored decoded handed all_handed
account-written_on = account-by 0 (apart written_on) gives-written_on

-- ## Beside a read that is open

abbrev flags : TransmitIndex
flags = index.Stream (One Bool)

-- a write end that moves while a read of the other guest is open, which is then one of its own guest;
-- that goes back once the read end is gone; and that stays once it was told so
abbrev joined_and_left : List Step
joined_and_left =
    steps.Guest 16
    ∷ steps.Guest 16
    ∷ steps.Between 0 1 flags
    ∷ steps.Read 1 flags 1 0 1
    ∷ steps.Move 0 flags 1 1
    ∷ steps.Write 1 flags 2 4 1
    ∷ steps.CancelRead 1 flags 1
    ∷ steps.DropRead 1 flags 1
    ∷ steps.Move 1 flags 2 0
    ∷ steps.Event 0 1
    ∷ steps.Move 0 flags 1 1
    ∷ []

gives-joined_and_left : AllGive start (apart joined_and_left)
unfolding performs with_stream operate delivered dropped decode encode items stored cancelled
gives-joined_and_left = (in_none 1, (in_no_more _ 1 2 (in_none 2), (in_no_more _ 1 1 (in_none 1), tt)))

replies_to-joined_and_left : replies_to joined_and_left ≡
    replies.Number 0
    ∷ replies.Number 1
    ∷ replies.Pair (record { read = 1; write = 1; stream = 0 })
    ∷ replies.Code Blocked
    ∷ replies.Number 2
    ∷ replies.Refused refusals.IntraComponent
    ∷ replies.Code (Cancelled 0)
    ∷ replies.Done
    ∷ replies.Number 1
    ∷ replies.Event (Some (Dropped 0))
    ∷ replies.Refused refusals.LiftDropped
    ∷ []
unfolding performs with_stream operate delivered dropped decode encode items stored cancelled
replies_to-joined_and_left = replies-by (apart joined_and_left) gives-joined_and_left
