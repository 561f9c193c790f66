-- The history as it is kept: rows of one size, and the chunks of all of them. Ours.
use Rattle.std.specs.Prelude.{ℕ, ◌+◌, ◌-◌, ◌/◌, ◌<◌, All, length, map, min, List, [], ◌∷◌}
use Rattle.strm_machine.specs.declared.replies.Reply.{Reply}
use Rattle.strm_machine.specs.declared.replies.Reply.TheVariants as replies
use Rattle.strm_machine.specs.ShortSteps.{chunk_at, whole_step, IsStepPlaced}
use Rattle.strm_shared.specs.Blocks.{Grown}
use Rattle.strm_shared.specs.declared.entry.Entry.{Entry}
use Rattle.strm_shared.specs.declared.rows.Row.{Row}
use Rattle.strm_shared.specs.declared.rows.ShortReply.{ShortReply}
use Rattle.strm_shared.specs.declared.rows.ShortReply.TheVariants as answers

-- the reply with its chunk
abbrev pub whole_reply : List (List ℕ) → ShortReply → Reply
whole_reply chunks answers.Done = replies.Done
whole_reply chunks (answers.Number number) = replies.Number number
whole_reply chunks (answers.Pair pair) = replies.Pair pair
whole_reply chunks (answers.Code code) = replies.Code code
whole_reply chunks (answers.Event code) = replies.Event code
whole_reply chunks (answers.Member member) = replies.Member member
whole_reply chunks (answers.Bytes bytes) = replies.Bytes (chunk_at chunks bytes)
whole_reply chunks (answers.Refused refusal) = replies.Refused refusal
whole_reply chunks (answers.BadItem stream) = replies.BadItem stream
whole_reply chunks answers.StoreTrapped = replies.StoreTrapped

-- the entry of a row
abbrev pub whole : List (List ℕ) → Row → Entry
whole chunks row = record { seat = row.seat; step = whole_step chunks row.step; reply = whole_reply chunks row.reply }

-- the place of a reply is the place of a chunk, of which there are so many
abbrev pub IsReplyPlaced : ℕ → ShortReply → Type 0
IsReplyPlaced count (answers.Bytes bytes) = bytes < count
IsReplyPlaced count _ = Unit {0}

-- and of a row
abbrev pub IsRowPlaced : ℕ → Row → Type 0
IsRowPlaced count row = IsStepPlaced count row.step × IsReplyPlaced count row.reply

-- the chunk of a reply, if it has one
abbrev pub chunks_of_reply : Reply → List (List ℕ)
chunks_of_reply (replies.Bytes bytes) = bytes ∷ []
chunks_of_reply _ = []

-- the entries of all rows
abbrev pub entries : List (List ℕ) → List Row → List Entry
entries chunks rows = map (whole chunks) rows

-- for how many entries there is room: an entry has at most two chunks
abbrev pub room_in_rows : Grown Row → Grown (List ℕ) → ℕ
room_in_rows rows chunks = min rows.room (length rows.items + (chunks.room - length chunks.items) / 2)

-- all places are places of chunks
abbrev pub AllPlaced : List (List ℕ) → List Row → Type 0
AllPlaced chunks rows = All (IsRowPlaced (length chunks)) rows
