-- Worked runs, computed: what was answered, written, read, received and handed over, as worked out by
-- hand.
use Rattle.std.proofs.Common.{◌≡◌, ℕ, Bool, true, false, cond, List, [], ◌∷◌, Option, Some, None, refl, ap, ◌∙◌}
use Rattle.std.specs.Cmp.{nat_cmp_total}
use Rattle.std.specs.FinMap.{FinMap, get, remove, get-empty, get-remove}
use Rattle.std.specs.Ordering.{eq_by_cmp, nat_cmp}
use Rattle.std.specs.Prelude.{ℤ, pos, map, is_some}
use Rattle.strm_machine.specs.Words.{ReturnCode, TransmitIndex, State, empty, stream_at, Call, Moment, received}
use Rattle.strm_machine.specs.declared.streams.Side.TheVariants.{Writing}
use Rattle.strm_machine.specs.declared.steps.Step.{Step}
use Rattle.strm_machine.specs.declared.replies.Reply.{Reply}
use Rattle.strm_codes.specs.declared.codes.ReturnCode.TheVariants.{Blocked, Completed, Dropped, Cancelled}
use Rattle.strm_codes.specs.declared.refusals.Refusal.TheVariants as refusals
use Rattle.strm_codes.specs.declared.codes.TransmitIndex.TheVariants as index
use Rattle.strm_codes.specs.declared.payloads.Payload.TheVariants.{One}
use Rattle.strm_codes.specs.declared.scalars.Scalar.TheVariants.{U8, U16}
use Rattle.strm_memory.specs.Items.{items, stored}
use Rattle.strm_memory.specs.Loads.{decode, encode}
use Rattle.strm_machine.specs.Operating.{operate}
use Rattle.strm_machine.specs.Endings.{delivered, dropped, cancelled}
use Rattle.strm_machine.specs.Refusals.{refusal}
use Rattle.strm_machine.specs.Making.{with_stream}
use Rattle.strm_machine.specs.Reactions.{performs, reaction}
use Rattle.strm_machine.specs.declared.steps.Step.TheVariants as steps
use Rattle.strm_machine.specs.declared.replies.Reply.TheVariants as replies
use Rattle.strm_machine.specs.Moments.{decoded}
use Rattle.strm_laws.specs.Conservation.{moments, state_after_steps, got, handed, all_handed, writes, reads}
use Rattle.strm_laws.specs.Laws.{moved_at}
use Rattle.strm_waitable_sets.specs.Sets.{no_sets}
use Rattle.strm_laws.proofs.Answered.{Answer, Answered, moments_by, last_state, AllGive, steps_of, moments-by, state_after_steps-state}

abbrev pub bytes : TransmitIndex
bytes = index.Stream (One U8)

abbrev words : TransmitIndex
words = index.Stream (One U16)

abbrev pub start : State
start = empty 0 (record { handles = 8; places = 8 })

abbrev pub item : ℕ → Option (List ℤ)
item n = Some (pos n ∷ [])

abbrev pub call : ℕ → ℕ → ℕ → Option ReturnCode → Call
call guest address asked report = record { guest = guest; address = address; asked = asked; report = report }

abbrev pub replies_to : List Step → List Reply
replies_to run = map (λ m. m.reply) (moments start run)

-- what the law speaks of, of one stream of a run
pub record Account : Type 0 where
  pub written : List Call
  pub read : List Call
  pub count : ℕ
  pub taken : List (Option (List ℤ))
  pub given : List (Option (List ℤ))

abbrev pub account_of : ℕ → List Moment → State → Account
account_of s all end = record {
  written = writes s all;
  read = reads s all;
  count = received s end;
  taken = got s all;
  given = all_handed (stream_at end s).kind s all (moved_at s Writing end) 0 (writes s all);
}

abbrev pub account : ℕ → List Step → Account
account s run = account_of s (moments start run) (state_after_steps start run)

-- ## Ends that do not move

-- a write that is read in parts, with a poke between them, and that is told with an item left; then
-- one whose read end is dropped after a part of it
abbrev parts : List Step
parts =
    steps.Guest 8
    ∷ steps.Guest 4
    ∷ steps.Between 0 1 bytes
    ∷ steps.Poke 0 0 (1 ∷ 2 ∷ 3 ∷ 4 ∷ 5 ∷ 6 ∷ 7 ∷ 8 ∷ [])
    ∷ steps.Write 0 bytes 1 0 4
    ∷ steps.Read 1 bytes 1 0 2
    ∷ steps.Poke 0 1 (99 ∷ 33 ∷ [])
    ∷ steps.Read 1 bytes 1 2 1
    ∷ steps.Event 0 1
    ∷ steps.Write 0 bytes 1 4 3
    ∷ steps.Read 1 bytes 1 3 1
    ∷ steps.DropRead 1 bytes 1
    ∷ steps.Event 0 1
    ∷ []

replies_to-parts : replies_to parts ≡
    replies.Number 0
    ∷ replies.Number 1
    ∷ replies.Pair (record { read = 1; write = 1; stream = 0 })
    ∷ replies.Done
    ∷ replies.Code Blocked
    ∷ replies.Code (Completed 2)
    ∷ replies.Done
    ∷ replies.Code (Completed 1)
    ∷ replies.Event (Some (Completed 3))
    ∷ replies.Code Blocked
    ∷ replies.Code (Completed 1)
    ∷ replies.Done
    ∷ replies.Event (Some (Dropped 1))
    ∷ []
unfolding reaction refusal performs with_stream operate delivered dropped decode encode items stored
replies_to-parts = refl

account-parts : account 0 parts ≡ record {
  written = call 0 0 4 (Some (Completed 3)) ∷ call 0 4 3 (Some (Dropped 1)) ∷ [];
  read = call 1 0 2 (Some (Completed 2)) ∷ call 1 2 1 (Some (Completed 1)) ∷ call 1 3 1 (Some (Completed 1)) ∷ [];
  count = 4;
  taken = item 1 ∷ item 2 ∷ item 33 ∷ item 5 ∷ [];
  given = item 1 ∷ item 2 ∷ item 33 ∷ item 5 ∷ [];
}
unfolding reaction refusal performs with_stream operate delivered dropped decode encode items stored decoded handed all_handed
account-parts = refl

-- a read that waits, meets a write of no items, is filled by two writes, and is told; a read of no
-- items; and a write that is read in part and has no report yet
abbrev filled : List Step
filled =
    steps.Guest 4
    ∷ steps.Guest 4
    ∷ steps.Between 0 1 bytes
    ∷ steps.Poke 0 0 (11 ∷ 12 ∷ 13 ∷ 14 ∷ [])
    ∷ steps.Read 1 bytes 1 0 3
    ∷ steps.Write 0 bytes 1 0 0
    ∷ steps.Write 0 bytes 1 0 2
    ∷ steps.Poke 0 0 (21 ∷ [])
    ∷ steps.Write 0 bytes 1 0 1
    ∷ steps.Write 0 bytes 1 2 2
    ∷ steps.Event 1 1
    ∷ steps.Read 1 bytes 1 3 0
    ∷ steps.Read 1 bytes 1 3 1
    ∷ steps.Dump 1 0 4
    ∷ []

replies_to-filled : replies_to filled ≡
    replies.Number 0
    ∷ replies.Number 1
    ∷ replies.Pair (record { read = 1; write = 1; stream = 0 })
    ∷ replies.Done
    ∷ replies.Code Blocked
    ∷ replies.Code (Completed 0)
    ∷ replies.Code (Completed 2)
    ∷ replies.Done
    ∷ replies.Code (Completed 1)
    ∷ replies.Code Blocked
    ∷ replies.Event (Some (Completed 3))
    ∷ replies.Code (Completed 0)
    ∷ replies.Code (Completed 1)
    ∷ replies.Bytes (11 ∷ 12 ∷ 21 ∷ 13 ∷ [])
    ∷ []
unfolding reaction refusal performs with_stream operate delivered dropped decode encode items stored
replies_to-filled = refl

account-filled : account 0 filled ≡ record {
  written = call 0 0 0 (Some (Completed 0)) ∷ call 0 0 2 (Some (Completed 2)) ∷ call 0 0 1 (Some (Completed 1)) ∷ call 0 2 2 None ∷ [];
  read = call 1 0 3 (Some (Completed 3)) ∷ call 1 3 0 (Some (Completed 0)) ∷ call 1 3 1 (Some (Completed 1)) ∷ [];
  count = 4;
  taken = item 11 ∷ item 12 ∷ item 21 ∷ item 13 ∷ [];
  given = item 11 ∷ item 12 ∷ item 21 ∷ item 13 ∷ [];
}
unfolding reaction refusal performs with_stream operate delivered dropped decode encode items stored decoded handed all_handed
account-filled = refl

-- two streams in opposite directions: an item of one is put into the region of a write that waits on
-- the other, whose items are words. Before that, a read completes a write of no items, and a write
-- of three gives it the one that it has room for
abbrev crossed : List Step
crossed =
    steps.Guest 6
    ∷ steps.Guest 6
    ∷ steps.Between 0 1 words
    ∷ steps.Between 1 0 bytes
    ∷ steps.Poke 0 0 (1 ∷ 2 ∷ 3 ∷ 4 ∷ 5 ∷ 6 ∷ [])
    ∷ steps.Write 0 words 1 0 0
    ∷ steps.Read 1 words 1 0 1
    ∷ steps.Event 0 1
    ∷ steps.Write 0 words 1 0 3
    ∷ steps.Event 1 1
    ∷ steps.Write 0 words 1 2 2
    ∷ steps.Poke 1 4 (77 ∷ 78 ∷ [])
    ∷ steps.Write 1 bytes 2 4 2
    ∷ steps.Read 0 bytes 2 2 1
    ∷ steps.Read 1 words 1 2 2
    ∷ steps.DropRead 1 words 1
    ∷ steps.Event 0 1
    ∷ steps.Event 0 1
    ∷ []

replies_to-crossed : replies_to crossed ≡
    replies.Number 0
    ∷ replies.Number 1
    ∷ replies.Pair (record { read = 1; write = 1; stream = 0 })
    ∷ replies.Pair (record { read = 2; write = 2; stream = 1 })
    ∷ replies.Done
    ∷ replies.Code Blocked
    ∷ replies.Code Blocked
    ∷ replies.Event (Some (Completed 0))
    ∷ replies.Code (Completed 1)
    ∷ replies.Event (Some (Completed 1))
    ∷ replies.Code Blocked
    ∷ replies.Done
    ∷ replies.Code Blocked
    ∷ replies.Code (Completed 1)
    ∷ replies.Code (Completed 2)
    ∷ replies.Done
    ∷ replies.Event (Some (Dropped 2))
    ∷ replies.Event None
    ∷ []
unfolding reaction refusal performs with_stream operate delivered dropped decode encode items stored
replies_to-crossed = refl

-- the words are 1 + 256 * 2, 77 + 256 * 4 and 5 + 256 * 6
account-crossed : account 0 crossed ≡ record {
  written = call 0 0 0 (Some (Completed 0)) ∷ call 0 0 3 (Some (Completed 1)) ∷ call 0 2 2 (Some (Dropped 2)) ∷ [];
  read = call 1 0 1 (Some (Completed 1)) ∷ call 1 2 2 (Some (Completed 2)) ∷ [];
  count = 3;
  taken = item 513 ∷ item 1101 ∷ item 1541 ∷ [];
  given = item 513 ∷ item 1101 ∷ item 1541 ∷ [];
}
unfolding reaction refusal performs with_stream operate delivered dropped decode encode items stored decoded handed all_handed
account-crossed = refl

account-crossed_back : account 1 crossed ≡ record {
  written = call 1 4 2 None ∷ [];
  read = call 0 2 1 (Some (Completed 1)) ∷ [];
  count = 1;
  taken = item 77 ∷ [];
  given = item 77 ∷ [];
}
unfolding reaction refusal performs with_stream operate delivered dropped decode encode items stored decoded handed all_handed
account-crossed_back = refl

-- ## Ends that move

-- the same by what sets answer
pub replies-by : (run : List Answered) → AllGive start run → replies_to (steps_of run) ≡ map (λ m. m.reply) (moments_by start run)
replies-by run all = ap (map (λ m. m.reply)) (moments-by start run all)

pub account-by : (s : ℕ) (run : List Answered) → AllGive start run → account s (steps_of run) ≡ account_of s (moments_by start run) (last_state start run)
account-by s run all =
    ap (λ ms. account_of s ms (state_after_steps start (steps_of run))) (moments-by start run all)
    ∙ ap (account_of s (moments_by start run)) (state_after_steps-state start run all)

abbrev pub unset : Answer
unset = record { in_set = false; has_member = false; ready = None; text = true }

-- no handle is in a set
abbrev pub apart : List Step → List Answered
apart run = map (λ step. record { step = step; answer = unset }) run

-- a handle is in none of no sets, and in none of those that another left
pub in_none : (handle : ℕ) → is_some (get no_sets.homes handle) ≡ false
in_none handle = ap is_some (get-empty nat_cmp handle)

pub in_no_more : (homes : FinMap nat_cmp ℕ) (gone handle : ℕ) → is_some (get homes handle) ≡ false → is_some (get (remove homes gone) handle) ≡ false
in_no_more homes gone handle e = ap is_some (get-remove nat_cmp_total homes gone handle) ∙ either (eq_by_cmp nat_cmp handle gone)
  where
    either : (b : Bool) → is_some (cond b None (get homes handle)) ≡ false
    either true = refl
    either false = e

-- a read end that goes to a second and to a third reader, which is the writer's guest; each reads on
-- where the one before it stopped
abbrev passed_on : List Step
passed_on =
    steps.Guest 8
    ∷ steps.Guest 4
    ∷ steps.Guest 4
    ∷ steps.Between 0 1 bytes
    ∷ steps.Poke 0 0 (1 ∷ 2 ∷ 3 ∷ 4 ∷ [])
    ∷ steps.Write 0 bytes 1 0 4
    ∷ steps.Read 1 bytes 1 0 1
    ∷ steps.Move 1 bytes 1 2
    ∷ steps.Read 1 bytes 1 1 1
    ∷ steps.Read 2 bytes 1 0 2
    ∷ steps.Move 2 bytes 1 0
    ∷ steps.Read 0 bytes 2 4 1
    ∷ steps.Event 0 1
    ∷ []

gives-passed_on : AllGive start (apart passed_on)
unfolding performs with_stream operate delivered dropped decode encode items stored
gives-passed_on = (in_none 1, (in_none 1, tt))

replies_to-passed_on : replies_to passed_on ≡
    replies.Number 0
    ∷ replies.Number 1
    ∷ replies.Number 2
    ∷ replies.Pair (record { read = 1; write = 1; stream = 0 })
    ∷ replies.Done
    ∷ replies.Code Blocked
    ∷ replies.Code (Completed 1)
    ∷ replies.Number 1
    ∷ replies.Refused refusals.UnknownHandle
    ∷ replies.Code (Completed 2)
    ∷ replies.Number 2
    ∷ replies.Code (Completed 1)
    ∷ replies.Event (Some (Completed 4))
    ∷ []
unfolding performs with_stream operate delivered dropped decode encode items stored
replies_to-passed_on = replies-by (apart passed_on) gives-passed_on

account-passed_on : account 0 passed_on ≡ record {
  written = call 0 0 4 (Some (Completed 4)) ∷ [];
  read = call 1 0 1 (Some (Completed 1)) ∷ call 2 0 2 (Some (Completed 2)) ∷ call 0 4 1 (Some (Completed 1)) ∷ [];
  count = 4;
  taken = item 1 ∷ item 2 ∷ item 3 ∷ item 4 ∷ [];
  given = item 1 ∷ item 2 ∷ item 3 ∷ item 4 ∷ [];
}
unfolding performs with_stream operate delivered dropped decode encode items stored decoded handed all_handed
account-passed_on = account-by 0 (apart passed_on) gives-passed_on

-- a read end that is lifted while a write is partly read, that is refused as one of another type and as
-- one that isn't loose, that reads on where it is lowered, and that is closed
abbrev lifted : List Step
lifted =
    steps.Guest 16
    ∷ steps.Guest 16
    ∷ steps.Between 0 1 bytes
    ∷ steps.Poke 0 0 (10 ∷ 11 ∷ 12 ∷ [])
    ∷ steps.Write 0 bytes 1 0 3
    ∷ steps.Read 1 bytes 1 0 1
    ∷ steps.Lower 0 1 bytes
    ∷ steps.Lift 1 bytes 1
    ∷ steps.Lower 0 1 words
    ∷ steps.Lower 0 1 bytes
    ∷ steps.Read 1 bytes 1 4 2
    ∷ steps.Event 0 1
    ∷ steps.Lift 1 bytes 1
    ∷ steps.Close 0
    ∷ steps.Lower 0 1 bytes
    ∷ steps.Event 0 1
    ∷ steps.DropWrite 0 bytes 1
    ∷ steps.Dump 1 0 6
    ∷ []

gives-lifted : AllGive start (apart lifted)
unfolding performs with_stream operate delivered dropped decode encode items stored
gives-lifted = (in_none 1, (in_no_more _ 1 1 (in_none 1), tt))

replies_to-lifted : replies_to lifted ≡
    replies.Number 0
    ∷ replies.Number 1
    ∷ replies.Pair (record { read = 1; write = 1; stream = 0 })
    ∷ replies.Done
    ∷ replies.Code Blocked
    ∷ replies.Code (Completed 1)
    ∷ replies.Refused refusals.UnknownReader
    ∷ replies.Number 0
    ∷ replies.Refused refusals.WrongType
    ∷ replies.Number 1
    ∷ replies.Code (Completed 2)
    ∷ replies.Event (Some (Completed 3))
    ∷ replies.Number 0
    ∷ replies.Done
    ∷ replies.Refused refusals.UnknownReader
    ∷ replies.Event (Some (Dropped 0))
    ∷ replies.Done
    ∷ replies.Bytes (10 ∷ 0 ∷ 0 ∷ 0 ∷ 11 ∷ 12 ∷ [])
    ∷ []
unfolding performs with_stream operate delivered dropped decode encode items stored
replies_to-lifted = replies-by (apart lifted) gives-lifted

account-lifted : account 0 lifted ≡ record {
  written = call 0 0 3 (Some (Completed 3)) ∷ [];
  read = call 1 0 1 (Some (Completed 1)) ∷ call 1 4 2 (Some (Completed 2)) ∷ [];
  count = 3;
  taken = item 10 ∷ item 11 ∷ item 12 ∷ [];
  given = item 10 ∷ item 11 ∷ item 12 ∷ [];
}
unfolding performs with_stream operate delivered dropped decode encode items stored decoded handed all_handed
account-lifted = account-by 0 (apart lifted) gives-lifted

-- both ends go to their own guest, and each gets the number that was just freed and none freed before; and
-- ends that stay: one that has a read, and one that was told that its writer is gone
abbrev staying : List Step
staying =
    steps.Guest 4
    ∷ steps.New 0 bytes
    ∷ steps.New 0 bytes
    ∷ steps.DropRead 0 bytes 3
    ∷ steps.Move 0 bytes 1 0
    ∷ steps.Move 0 bytes 2 0
    ∷ steps.Move 0 bytes 1 1
    ∷ steps.Read 0 bytes 1 0 1
    ∷ steps.Move 0 bytes 1 0
    ∷ steps.CancelRead 0 bytes 1
    ∷ steps.DropWrite 0 bytes 2
    ∷ steps.Event 0 1
    ∷ steps.Lift 0 bytes 1
    ∷ []

gives-staying : AllGive start (apart staying)
unfolding performs with_stream operate delivered dropped decode encode items stored cancelled
gives-staying =
    let first = in_no_more _ 3 1 (in_none 1) in
    let later = in_no_more _ 2 1 (in_no_more _ 1 1 first) in
    (first, (in_no_more _ 1 2 (in_no_more _ 3 2 (in_none 2)), (later, (later, (in_no_more _ 2 1 later, tt)))))

replies_to-staying : replies_to staying ≡
    replies.Number 0
    ∷ replies.Pair (record { read = 1; write = 2; stream = 0 })
    ∷ replies.Pair (record { read = 3; write = 4; stream = 1 })
    ∷ replies.Done
    ∷ replies.Number 1
    ∷ replies.Number 2
    ∷ replies.Refused refusals.UnknownGuest
    ∷ replies.Code Blocked
    ∷ replies.Refused refusals.Busy
    ∷ replies.Code (Cancelled 0)
    ∷ replies.Done
    ∷ replies.Event (Some (Dropped 0))
    ∷ replies.Refused refusals.LiftDropped
    ∷ []
unfolding performs with_stream operate delivered dropped decode encode items stored cancelled
replies_to-staying = replies-by (apart staying) gives-staying
