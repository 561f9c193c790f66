-- What is done with a ready host end, one call after the other, and what went into it and came out. Ours.
use Rattle.std.specs.Prelude.{ℕ, Bool, List, [], ◌∷◌, ◌++◌, take, Option}
use Rattle.strm_buffers.specs.Listing.{Item}
use Rattle.strm_buffers.specs.Said.{in_room}
use Rattle.strm_buffers.specs.declared.answers.ReaderSaid.{ReaderSaid}
use Rattle.strm_ready_ends.specs.SendQueues.{SendQueue, fed, with_end, polled, given, forgotten}
use Rattle.strm_ready_ends.specs.ReceiveQueues.{ReceiveQueue, granted, finished, took, collected, reader_forgotten}

-- A HOST WRITER, as long as its stream is there

-- a call of it that was accepted: a feed of items, a gift and a poll with a room, the end, its records forgotten
pub data WriterCall : Type 0 where
  Feed : List Item → WriterCall
  Give : Option ℕ → WriterCall
  Poll : Option ℕ → Bool → WriterCall
  End : WriterCall
  Forget : WriterCall

-- after one
abbrev pub after_call : SendQueue → WriterCall → SendQueue
after_call queue (Feed items) = fed queue items
after_call queue (Give room) = given queue room
after_call queue (Poll room finish) = polled queue room finish
after_call queue End = with_end queue
after_call queue Forget = forgotten queue

-- after all of them
abbrev pub after_calls : SendQueue → List WriterCall → SendQueue
after_calls queue [] = queue
after_calls queue (call ∷ more) = after_calls (after_call queue call) more

-- what went in with one
abbrev pub fed_in : WriterCall → List Item
fed_in (Feed items) = items
fed_in call = []

-- and with all
abbrev pub all_fed : List WriterCall → List Item
all_fed [] = []
all_fed (call ∷ more) = fed_in call ++ all_fed more

-- what came out with one
abbrev pub given_in : SendQueue → WriterCall → List Item
given_in queue (Give room) = in_room room queue.items
given_in queue call = []

-- and with all
abbrev pub all_given : SendQueue → List WriterCall → List Item
all_given queue [] = []
all_given queue (call ∷ more) = given_in queue call ++ all_given (after_call queue call) more

-- A HOST READER

-- a call of it: a poll that took items, so many collected, a grant, the end, its records forgotten, its stream gone
pub data ReaderCall : Type 0 where
  Took : List Item → ReaderSaid → ReaderCall
  Collect : ℕ → ReaderCall
  Grant : ℕ → ReaderCall
  Finish : ReaderCall
  ForgetPolls : ReaderCall

-- after one
abbrev pub reader_after_call : ReceiveQueue → ReaderCall → ReceiveQueue
reader_after_call queue (Took items said) = took queue items said
reader_after_call queue (Collect count) = collected queue count
reader_after_call queue (Grant count) = granted queue count
reader_after_call queue Finish = finished queue
reader_after_call queue ForgetPolls = reader_forgotten queue

-- after all of them
abbrev pub reader_after_calls : ReceiveQueue → List ReaderCall → ReceiveQueue
reader_after_calls queue [] = queue
reader_after_calls queue (call ∷ more) = reader_after_calls (reader_after_call queue call) more

-- what went in with one
abbrev pub taken_in : ReaderCall → List Item
taken_in (Took items said) = items
taken_in call = []

-- and with all
abbrev pub all_taken : List ReaderCall → List Item
all_taken [] = []
all_taken (call ∷ more) = taken_in call ++ all_taken more

-- what came out with one
abbrev pub collected_in : ReceiveQueue → ReaderCall → List Item
collected_in queue (Collect count) = take count queue.items
collected_in queue call = []

-- and with all
abbrev pub all_collected : ReceiveQueue → List ReaderCall → List Item
all_collected queue [] = []
all_collected queue (call ∷ more) =
    collected_in queue call ++ all_collected (reader_after_call queue call) more
