-- What happens to one stream in a run, and which codes are answered for it: from what is done, the handles
-- that name its ends, the replies, and the records that its host ends add. None of the machine's cases
-- stands here. Ours.
use Rattle.std.specs.Prelude.{ℕ, ◌==◌, if◌then◌else◌, List, [], ◌∷◌, ◌++◌, length, map, Option, Some}
use Rattle.strm_codes.specs.declared.codes.ReturnCode.{ReturnCode}
use Rattle.strm_buffers.specs.Said.{WriterSaid}
use Rattle.strm_buffers.specs.declared.answers.ReaderSaid.{ReaderSaid}
use Rattle.strm_machine.specs.Moments.{names}
use Rattle.strm_machine.specs.Tests.{items_asked}
use Rattle.strm_machine.specs.declared.acts.NamedEnd.{NamedEnd}
use Rattle.strm_machine.specs.declared.acts.EndAct.{EndAct}
use Rattle.strm_machine.specs.declared.acts.EndAct.TheVariants as end_acts
use Rattle.strm_machine.specs.declared.acts.LooseAct.{LooseAct}
use Rattle.strm_machine.specs.declared.acts.LooseAct.TheVariants as loose_acts
use Rattle.strm_machine.specs.declared.acts.HostAct.TheVariants as host_acts
use Rattle.strm_machine.specs.declared.acts.SetAct.TheVariants as set_acts
use Rattle.strm_machine.specs.declared.acts.Act.{Act}
use Rattle.strm_machine.specs.declared.acts.Act.TheVariants.{OnEnd, Transfer, OnLoose, OnHost, Event, OnSet}
use Rattle.strm_machine.specs.declared.replies.Reply.{Reply}
use Rattle.strm_machine.specs.declared.replies.Reply.TheVariants as replies
use Rattle.strm_machine.specs.declared.streams.Owner.{Owner}
use Rattle.strm_machine.specs.declared.streams.Owner.TheVariants.{Host}
use Rattle.strm_machine.specs.declared.streams.Side.{Side}
use Rattle.strm_machine.specs.declared.streams.Side.TheVariants.{Writing, Reading}
use Rattle.strm_host_machine.specs.World.{stream_in, writer_at}
use Rattle.strm_host_machine.specs.Courses.{AGuest, NoGuest, AHost, CoursePoll, StreamEvent, Begins, Calls, Hears, Cancels, Drops, Moves, Turns}
use Rattle.strm_host_laws.specs.HostMoments.{Part, Acts, Turns as TurnsOf, HostMoment}
use Rattle.strm_host_laws.specs.HostLaws.{used_in, used_by, act_in}

-- RECORDS

-- of a host writer's record the number of the items that it produced, and its answer
abbrev pub poll_of_record : WriterSaid → CoursePoll
poll_of_record said = record { items = length said.items; answer = said.answer }

-- of a host reader's the number of the items that it took
abbrev pub poll_of_reader : ReaderSaid → CoursePoll
poll_of_reader said = record { items = said.taken; answer = said.answer }

-- the records that the host writer used in a moment which is this owner of a write end
abbrev pub polls_by_writer : HostMoment → Owner → List CoursePoll
polls_by_writer m (Host n) = map poll_of_record (used_in n m)
polls_by_writer m owner = []

-- the same of the host reader which is this owner of a read end
abbrev pub polls_by_reader : HostMoment → Owner → List CoursePoll
polls_by_reader m (Host r) = map poll_of_reader (used_by r m)
polls_by_reader m owner = []

-- those of the host writer of stream s
abbrev pub produced_polls : ℕ → HostMoment → List CoursePoll
produced_polls s m = polls_by_writer m (stream_in m.before s).writer.owner

-- and of its host reader
abbrev pub taken_polls : ℕ → HostMoment → List CoursePoll
taken_polls s m = polls_by_reader m (stream_in m.before s).reader.owner

-- those of the host end across from a side
abbrev pub polls_across : ℕ → Side → HostMoment → List CoursePoll
polls_across s Reading m = produced_polls s m
polls_across s Writing m = taken_polls s m

-- EVENTS

-- what is done to an end, if it is accepted
abbrev pub by_end_act : Side → NamedEnd → EndAct → Reply → List CoursePoll → List StreamEvent
by_end_act side end (end_acts.Operate address count) (replies.Code code) polls =
    Calls side (items_asked end.ty count) polls ∷ []
by_end_act side end end_acts.Cancel (replies.Code code) polls = Cancels side ∷ []
by_end_act side end end_acts.Drop replies.Done polls = Drops side ∷ []
by_end_act side end end_acts.Lift (replies.Number n) polls = Moves side NoGuest ∷ []
by_end_act side end act reply polls = []

-- what is done to an end that is named
abbrev pub by_name : Side → Act → Reply → List CoursePoll → List StreamEvent
by_name side (OnEnd on end act) reply polls = by_end_act side end act reply polls
by_name side (Transfer end to) (replies.Number n) polls = Moves side AGuest ∷ []
by_name side (Event g handle) (replies.Event code) polls = Hears side ∷ []
by_name side (OnSet g set set_acts.Poll) (replies.Member (Some member)) polls = Hears side ∷ []
by_name side act reply polls = []

-- of the end of stream s on a side
abbrev pub events_at : ℕ → Side → HostMoment → List StreamEvent
events_at s side m =
    if names s side m.before.state (act_in m.part) m.reply
    then by_name side (act_in m.part) m.reply (polls_across s side m)
    else []

-- what is done to a loose read end
abbrev pub by_loose_act : LooseAct → Reply → List StreamEvent
by_loose_act (loose_acts.Lower g ty) (replies.Number n) = Moves Reading AGuest ∷ []
by_loose_act loose_acts.Close replies.Done = Drops Reading ∷ []
by_loose_act act reply = []

-- what is done to stream s by its number: to its loose read end, in its making of a host writer, or in a
-- drive round
abbrev pub events_by_number : ℕ → HostMoment → Part → Reply → List StreamEvent
events_by_number s m (Acts (OnLoose reader act)) reply = if reader == s then by_loose_act act reply else []
events_by_number s m (Acts (OnHost host host_acts.New)) (replies.Number n) =
    if n == s then Begins (length (writer_at m.before host).holds) ∷ [] else []
events_by_number s m (Acts (OnHost host (host_acts.Pipe reader))) replies.Done =
    if reader == s then Moves Reading AHost ∷ [] else []
events_by_number s m (TurnsOf n) reply =
    if n == s then Turns (produced_polls s m) (taken_polls s m) ∷ [] else []
events_by_number s m part reply = []

-- what happens to stream s in a moment
abbrev pub events_in : ℕ → HostMoment → List StreamEvent
events_in s m = events_at s Writing m ++ (events_at s Reading m ++ events_by_number s m m.part m.reply)

-- and in these, in order
abbrev pub events : ℕ → List HostMoment → List StreamEvent
events s [] = []
events s (m ∷ more) = events_in s m ++ events s more

-- CODES

-- the code that a reply answers, or that it answers none where it could
abbrev pub code_answered : Reply → List (Option ReturnCode)
code_answered (replies.Code code) = Some code ∷ []
code_answered (replies.Event code) = code ∷ []
code_answered (replies.Member (Some member)) = Some member.code ∷ []
code_answered reply = []

-- what is answered for the end of stream s on a side
abbrev pub answered_at : ℕ → Side → HostMoment → List (Option ReturnCode)
answered_at s side m =
    if names s side m.before.state (act_in m.part) m.reply then code_answered m.reply else []

-- what is answered for stream s in a moment
abbrev pub answered_in : ℕ → HostMoment → List (Option ReturnCode)
answered_in s m = answered_at s Writing m ++ answered_at s Reading m

-- and in these
abbrev pub codes_answered : ℕ → List HostMoment → List (Option ReturnCode)
codes_answered s [] = []
codes_answered s (m ∷ more) = answered_in s m ++ codes_answered s more
