-- The text of replies, and of a whole run. Ours.
use Rattle.std.specs.Prelude.{◌≡◌, ℕ, ◌+◌, ◌/◌, ◌%◌, Bool, true, false, List, [], ◌∷◌, ◌++◌, length, codes, decimal, Option, Some, None}
use Rattle.std.specs.List.{flat_map, count_by}
use Rattle.strm_codes.specs.Codes.{word_of}
use Rattle.strm_codes.specs.declared.codes.ReturnCode.{ReturnCode}
use Rattle.strm_codes.specs.Refusals.{refusal_name}
use Rattle.strm_machine.specs.declared.replies.Member as members
use Rattle.strm_machine.specs.declared.replies.Reply.{Reply}
use Rattle.strm_machine.specs.declared.replies.Reply.TheVariants.{Done, Number, Pair, Code, Event, Member, Bytes, Refused, BadItem, StoreTrapped}
use Rattle.strm_machine.specs.declared.stops.Stop.{Stop}
use Rattle.strm_machine.specs.declared.stops.Stop.TheVariants as stops
use Rattle.strm_machine.specs.declared.streams.HostEnd.{HostEnd}
use Rattle.strm_machine.specs.Moments.{is_blocked}
use Rattle.strm_machine.specs.declared.streams.HostEnd.TheVariants as ends
use Rattle.strm_lines.specs.Words.{hex_pair, hex_pairs}
use Rattle.strm_lines.specs.Grammar.{words}

-- a text as a line, ended by its line feed
abbrev pub line_ended : List ℕ → List ℕ
line_ended text = text ++ 10 ∷ []

-- a text has more, from the front of these bytes
abbrev pub HasPart : List ℕ → List ℕ → List ℕ → Type 0
HasPart old new bytes = (front : List ℕ) × (back : List ℕ) × (bytes ≡ front ++ back) × (new ≡ old ++ front)

-- a word of 32 bits as eight hexadecimal digits, the highest first
abbrev pub hex_word : ℕ → List ℕ
hex_word n =
    hex_pair (n / 0x1000000) ++ hex_pair (n / 0x10000 % 0x100)
    ++ hex_pair (n / 0x100 % 0x100) ++ hex_pair (n % 0x100)

-- a code as its word
abbrev pub code_text : ReturnCode → List ℕ
code_text code = hex_word (word_of code)

-- what an end was told, or that there was nothing to tell
abbrev pub event_text : Option ReturnCode → List ℕ
event_text (Some code) = code_text code
event_text None = codes "none"

-- the member of a set that was told something, and what it was told
abbrev pub member_text : Option members.Member → List ℕ
member_text (Some member) = words (decimal member.handle ∷ code_text member.code ∷ [])
member_text None = codes "none"

-- the text of a reply; a run has no reply of the last two kinds
abbrev pub reply_text : Reply → List ℕ
reply_text Done = codes "ok"
reply_text (Number n) = decimal n
reply_text (Pair pair) =
    words (codes "read" ∷ decimal pair.read ∷ codes "write" ∷ decimal pair.write
    ∷ codes "stream" ∷ decimal pair.stream ∷ [])
reply_text (Code code) = code_text code
reply_text (Event told) = event_text told
reply_text (Member told) = member_text told
reply_text (Bytes bytes) = hex_pairs bytes
reply_text (Refused refusal) = words (codes "refused" ∷ refusal_name refusal ∷ [])
reply_text (BadItem stream) =
    words (codes "bad-item" ∷ codes "stream" ∷ decimal stream ∷ [])
reply_text StoreTrapped = codes "store-trapped"

-- one line per reply
abbrev pub reply_lines : List Reply → List ℕ
reply_lines replies = flat_map (λ reply. line_ended (reply_text reply)) replies

-- what was received on a stream, in items
abbrev pub stream_text : ℕ → ℕ → List ℕ
stream_text stream moved =
    words (codes "stream" ∷ decimal stream ∷ codes "moved" ∷ decimal moved ∷ [])

-- one line per stream, from this number on
abbrev pub stream_lines : ℕ → List ℕ → List ℕ
stream_lines stream [] = []
stream_lines stream (n ∷ moved) = line_ended (stream_text stream n) ++ stream_lines (stream + 1) moved

-- how many steps were done
abbrev pub done_text : ℕ → List ℕ
done_text steps = words (codes "done" ∷ decimal steps ∷ [])

-- the text of a run: its replies, what was received on each stream, the number of steps
abbrev pub transcript_text : List Reply → List ℕ → List ℕ
transcript_text replies moved =
    reply_lines replies ++ stream_lines 0 moved ++ line_ended (done_text (length replies))

-- a step that was refused
abbrev pub is_refusal : Reply → Bool
is_refusal (Refused refusal) = true
is_refusal _ = false

-- how many replies there are of a kind, behind its word
abbrev pub count_text : List ℕ → ℕ → List ℕ
count_text word count = words (word ∷ decimal count ∷ [])

-- the summary of a run: how many steps were refused, how many waited, what was received on each stream,
-- the number of steps
abbrev pub summary_text : List Reply → List ℕ → List ℕ
summary_text replies moved =
    line_ended (count_text (codes "refused") (count_by is_refusal replies))
    ++ line_ended (count_text (codes "blocked") (count_by is_blocked replies))
    ++ stream_lines 0 moved ++ line_ended (done_text (length replies))

-- a host end, by its side and its number
abbrev pub host_end_text : HostEnd → List ℕ
host_end_text (ends.Writer n) = words (codes "writer" ∷ decimal n ∷ [])
host_end_text (ends.Reader n) = words (codes "reader" ∷ decimal n ∷ [])

-- why a run stopped; none stops for the last reason
abbrev pub stop_text : Stop → List ℕ
stop_text (stops.HostFailed end) = words (codes "host-failed" ∷ host_end_text end ∷ [])
stop_text (stops.HostBroke end) = words (codes "host-broke" ∷ host_end_text end ∷ [])
stop_text (stops.BadItem stream) = words (codes "bad-item" ∷ codes "stream" ∷ decimal stream ∷ [])
stop_text stops.StoreTrapped = codes "store-trapped"

-- the text of a run that stopped: the replies before, the number of the step that stopped it, from
-- 1, and why it did
abbrev pub stopped_text : List Reply → Stop → List ℕ
stopped_text replies stop =
    reply_lines replies
    ++ line_ended (words (codes "stopped" ∷ decimal (length replies + 1) ∷ stop_text stop ∷ []))

-- what is written where the words of the program are none of its own
abbrev pub usage_text : List ℕ
usage_text = line_ended (codes "usage: strm run | strm gen N SEED")

-- what is written where a line is not in the grammar
abbrev pub bad_line_text : ℕ → List ℕ
bad_line_text line = line_ended (words (codes "bad" ∷ codes "line" ∷ decimal line ∷ []))

-- what is written where the input is over the limits
abbrev pub too_long_text : List ℕ
too_long_text = line_ended (codes "too long")

-- what is written where the source failed
abbrev pub read_fault_text : List ℕ
read_fault_text = line_ended (codes "read fault")
