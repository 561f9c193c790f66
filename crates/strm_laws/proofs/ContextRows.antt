-- A worked run with error contexts, computed.
use Rattle.std.proofs.Common.{◌≡◌, zero, suc, Bool, true, false, List, [], ◌∷◌, None, arith}
use Rattle.std.specs.Str.{IsAscii, is_utf8}
use Rattle.std.proofs.lemmas.Str.{IsUtf8-from_ascii, is_utf8-from_IsUtf8}
use Rattle.strm_machine.specs.declared.steps.Step.{Step}
use Rattle.strm_machine.specs.declared.replies.Reply.{Reply}
use Rattle.strm_machine.specs.declared.replies.Reply.TheVariants as replies
use Rattle.strm_machine.specs.declared.steps.Step.TheVariants as steps
use Rattle.strm_codes.specs.declared.refusals.Refusal.TheVariants as refusals
use Rattle.strm_machine.specs.Operating.{operate}
use Rattle.strm_machine.specs.Endings.{delivered, dropped}
use Rattle.strm_machine.specs.Making.{with_stream}
use Rattle.strm_machine.specs.Reactions.{performs}
use Rattle.strm_memory.specs.Items.{items, stored}
use Rattle.strm_memory.specs.Loads.{decode, encode}
use Rattle.strm_machine.proofs.MessageLemmas.{no_text}
use Rattle.strm_laws.proofs.Answered.{Answered, AllGive, steps_of}
use Rattle.strm_laws.proofs.Rows.{start, replies_to, replies-by}

abbrev answered : Step → Bool → Answered
answered step text = record { step = step; answer = record { in_set = false; has_member = false; ready = None; text = text } }

-- a step that makes no error context
abbrev plain : Step → Answered
plain step = answered step true

-- a message goes to another guest, stays when the first handle is dropped, and goes with the last; bytes
-- that are no text, too many, or not there make none
abbrev told : List Answered
told =
    plain (steps.Guest 16)
    ∷ plain (steps.Guest 8)
    ∷ plain (steps.Poke 0 0 (0x6f ∷ 0x6f ∷ 0x70 ∷ []))
    ∷ answered (steps.ErrNew 0 0 3) true
    ∷ plain (steps.ErrMove 0 1 1)
    ∷ plain (steps.ErrDrop 0 1)
    ∷ plain (steps.ErrText 1 1 2)
    ∷ plain (steps.Dump 1 0 5)
    ∷ plain (steps.ErrDrop 1 1)
    ∷ plain (steps.ErrText 1 1 0)
    ∷ plain (steps.Poke 0 0 (0xff ∷ []))
    ∷ answered (steps.ErrNew 0 0 1) false
    ∷ answered (steps.ErrNew 0 0 4097) false
    ∷ answered (steps.ErrNew 0 0 4096) false
    ∷ []

is_text : is_utf8 (0x6f ∷ 0x6f ∷ 0x70 ∷ []) ≡ true
is_text = is_utf8-from_IsUtf8 _ (IsUtf8-from_ascii (0x6f ∷ 0x6f ∷ 0x70 ∷ []) ascii)
  where
    ascii : IsAscii (0x6f ∷ 0x6f ∷ 0x70 ∷ [])
    ascii zero = omega arith
    ascii (suc zero) = omega arith
    ascii (suc (suc zero)) = omega arith
    ascii (suc (suc (suc k))) = omega arith

gives-told : AllGive start told
unfolding performs with_stream operate delivered dropped decode encode items stored
gives-told = (is_text, (no_text 0xff _ (omega arith), (no_text 0xff _ (omega arith), (no_text 0xff _ (omega arith), tt))))

-- its replies
abbrev told_replies : List Reply
told_replies =
    replies.Number 0
    ∷ replies.Number 1
    ∷ replies.Done
    ∷ replies.Number 1
    ∷ replies.Number 1
    ∷ replies.Done
    ∷ replies.Number 3
    ∷ replies.Bytes (0 ∷ 0 ∷ 0x6f ∷ 0x6f ∷ 0x70 ∷ [])
    ∷ replies.Done
    ∷ replies.Refused refusals.UnknownHandle
    ∷ replies.Done
    ∷ replies.Refused refusals.BadText
    ∷ replies.Refused refusals.MessageTooLong
    ∷ replies.Refused refusals.OutOfBounds
    ∷ []

replies_to-told : replies_to (steps_of told) ≡ told_replies
unfolding performs with_stream operate delivered dropped decode encode items stored
replies_to-told = replies-by told gives-told
