-- The rules that a host end owes, said of one record and the kind of its stream. Ours: wasmtime
-- answers a broken rule by an error or a panic, or rules it out by its types.
use Rattle.std.specs.Prelude.{ℕ, ◌==◌, Bool, true, false, ◌&&◌, ◌||◌, not, length, nat_lt, nat_le, Option, Some, None}
use Rattle.strm_codes.specs.declared.codes.TransmitKind.{TransmitKind}
use Rattle.strm_codes.specs.declared.codes.TransmitKind.TheVariants.{Stream, Future}
use Rattle.strm_buffers.specs.declared.answers.Answer.{Answer}
use Rattle.strm_buffers.specs.declared.answers.Answer.TheVariants.{Pending, Completed, Cancelled, Dropped, Failed}
use Rattle.strm_buffers.specs.declared.answers.ReaderSaid.{ReaderSaid}
use Rattle.strm_buffers.specs.Said.{WriterSaid}

-- room is stated, for two items or more
abbrev pub is_for_two : Option ℕ → Bool
is_for_two (Some room) = nat_le 2 room
is_for_two None = false

-- a writer breaks its rules by this answer, in a poll with this room that was asked to finish or
-- not, and in which it produced so many items
abbrev pub writer_breaks : TransmitKind → Answer → Option ℕ → Bool → ℕ → Bool
-- Pending with items
writer_breaks kind Pending room finish produced = nat_lt 0 produced
-- Cancelled with items, or without being asked to finish
writer_breaks kind Cancelled room finish produced = nat_lt 0 produced || not finish
-- on a stream, Completed without items where there was room for two
writer_breaks Stream Completed room finish produced = (produced == 0) && is_for_two room
-- on a future, Completed with another number of items than one
writer_breaks Future Completed room finish produced = not (produced == 1)
-- on a future, Dropped
writer_breaks Stream Dropped room finish produced = false
writer_breaks Future Dropped room finish produced = true
writer_breaks kind Failed room finish produced = false

-- no item was taken in this poll, nor since the end was last ready
abbrev pub is_untouched : ℕ → ℕ → Bool
is_untouched taken since = (taken == 0) && (since == 0)

-- a host reader breaks its rules by this answer, in a poll that offered so many items, of which it
-- took so many after those that it had taken since
abbrev pub reader_breaks : TransmitKind → Answer → ℕ → ℕ → Bool → ℕ → Bool
reader_breaks kind Pending offered since finish taken = false
-- Cancelled without being asked to finish
reader_breaks Stream Cancelled offered since finish taken = not finish
-- on a future, Cancelled with the value taken too
reader_breaks Future Cancelled offered since finish taken = not finish || not (is_untouched taken since)
-- on a stream, Completed with items offered and none taken
reader_breaks Stream Completed offered since finish taken = nat_lt 0 offered && is_untouched taken since
-- on a future, Completed with the value not taken
reader_breaks Future Completed offered since finish taken = is_untouched taken since
-- on a future, Dropped
reader_breaks Stream Dropped offered since finish taken = false
reader_breaks Future Dropped offered since finish taken = true
reader_breaks kind Failed offered since finish taken = false

-- the record of a writer of this kind breaks the rules
abbrev pub breaks_as_writer : TransmitKind → WriterSaid → Bool
breaks_as_writer kind said = writer_breaks kind said.answer said.room said.finish (length said.items)

-- and of a host reader
abbrev pub breaks_as_reader : TransmitKind → ReaderSaid → Bool
breaks_as_reader kind said = reader_breaks kind said.answer said.offered said.since said.finish said.taken
