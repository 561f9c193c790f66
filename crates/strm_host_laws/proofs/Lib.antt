-- What each file shows, as its head says.

-- The moments of a run follow each other, and the world after the last of them is where its play ends
pub mod Chains
-- The changes that a part of a run is made of, and what each of them leaves of a stream
pub mod GoingRules
-- What comes of a part of a run, by the changes that it is made of: what holds of each of them and from
-- one to the next holds of the whole
pub mod Goings
-- Exactly the host writers that became gone were closed, and tell that they are gone
pub mod Closed
-- Whether its host writers hold items is known of a store after every step, where it was before
pub mod Known
-- Host writers use their records in order, and hear the feeds to them
pub mod Fed
-- Host readers use their records in order, and hear the grants to them
pub mod ReadersFed
-- Where a step stops, host ends used the records of its polls, in order, and heard nothing
pub mod StoppedEnds
-- What the round of a pipe does where it goes on: the records that its two host ends used, the items that
-- the reader took, and what is held then
pub mod Rounds
-- The turn of a host end in a state, for a read or write on the other side: so many of its items are
-- moved, and the host end ends where it is done
pub mod HostTurns
-- What a part of a run does to the state: the few ways, and what is known of each
pub mod Effects
-- A turn in a drive round, what the machine does without host ends, and a read or write that a host end
-- answers do to the state one of the few ways
pub mod TurnEffects
-- Every part of a run does to the state one of the few ways, drops of ends and what is done to host ends
-- among them
pub mod PartEffects
-- What the turn of a host end does to its stream
pub mod TurnMoves
-- Handles and ends, host ends and streams still agree after a stream is another or goes
pub mod HostsAgree
-- What every state of a run with host ends keeps, and that a step of the machine, the turn of a host end, an
-- end that opens or is told, and a stream more keep it
pub mod TurnsStand
-- A host end that goes with the other end, a read end that goes to a host reader, and the round of a pipe
-- keep what every state keeps
pub mod PipesStand
-- Every state of a run with host ends is sound; handles and ends agree in it, and so do host ends and
-- streams; and a read end that is loose has no operation
pub mod Standing
-- What a part of a run with host ends does to a stream of which a host end has, or had, an end: no guest
-- has that end, and nothing is written or read there
pub mod PartsSeen
-- What a part of a run with host ends does to a stream of which no host end has an end: what a step
-- without them does
pub mod GuestsSeen
-- The moments of a run, by what each does to one stream: no more of them than the run has steps may have
-- to do with it, since a drive round goes through each stream once
pub mod StepsLeft
-- The count of a stream has room for the parts to come, where they are as many as were paid for
pub mod Rooms
-- A future that guests write, and whose read end went to a host reader: what is known of its write and of
-- what the host reader took, so that a report says whether the value moved
pub mod FutureRead
-- Every part of a run keeps what is known of a future that guests write, and whose read end went to a
-- host reader; and it is so once the read end went there
pub mod FuturesSeen
-- What a step of the machine does to a stream that guests write and a host reader reads, or has read, and
-- what is known of such a stream
pub mod ReadStepSeen
-- What a turn of the host reader, and a write that is called, do to the write end of a stream that guests
-- write and a host reader reads
pub mod ReadTurnSeen
-- What a part of a run with host ends does to a stream that guests write and a host reader reads, or has
-- read: on its write end one of the five changes, and on its read end nothing but what the host reader
-- took
pub mod ReadSeen
-- The account of an end of a stream that guests write, whoever reads it, and how it grows by one moment
pub mod HostAccounts
-- Every run with host ends: what its states keep of each stream, and the account of each of which no host
-- end had an end
pub mod GuestRuns
-- How many items a part of a run with host ends may bring to a stream, and that its kind stays
pub mod HostCounts
-- Memories in a run with host ends: the bytes that are put lie there, and those that are not touched
-- stay; what a host writer hands over touches those where its items are received, and a host reader
-- touches none
pub mod HostBytes
-- What the turn of a host end does where it goes on: of a host writer the items that it hands over, the
-- records that it uses, and what it holds then; of a host reader its record, and the items that it takes
pub mod Turned
-- Items that were lowered where a read's next ones are to lie do lie there
pub mod Lowered
-- What the machine does without host ends moves nothing on a stream whose writer is a host writer or gone
pub mod Unmoved
-- What the machine does without host ends moves nothing on a stream whose read end went to a host reader
pub mod Unread
-- What a moment does to what a host reader tells that it took: nothing, unless it is its turn
pub mod Took
-- What a moment does to the items that are kept of a host writer, and to the records of the host reader
-- of its stream: nothing, unless it is the round of that stream
pub mod KeptItems
-- What is known of a future that a host writer writes, and that a moment which is no turn of it keeps that
pub mod FutureKept
-- What is known of a future that a host writer writes is known after a turn for its read, after its round,
-- and after a read of it that is called
pub mod FutureTurns
-- A future that a host writer writes: it passes one item at most, if its writer held no more than one
-- when it was made
pub mod FutureWritten
-- What becomes of what a host reader does: it stays, or it is over, or the reader gets its stream
pub mod Duties
-- Each item that a host reader took in a run is one: a record tells truly which items it took
pub mod TakenItems
-- A host reader tells exactly what was taken of its stream, behind what it told at first
pub mod ToldTaken
-- What a moment of a run is, by what it does to the world: one of few forms
pub mod Forms
-- What is seen of a world after one of its streams was written back, and after a turn
pub mod WrittenBack
-- Exactly the host readers that became gone were closed
pub mod ReadersClosed
-- What holds of every world that a run comes to: its state is sound, host writers that have a stream are
-- there, and what host writers hold and will produce are items of their payload
pub mod Lives
-- What a moment does to one stream that a host writer has, or that its writer has left: nothing, unless
-- it is that host writer's turn, or the stream is forsaken
pub mod Touched
-- What one moment delivers on a stream of a host writer: what it produced and held is what was received,
-- and what is held then
pub mod Moments
-- Moments that make no stream of a number, and streams that no host writer writes: no host writer produces
-- for them
pub mod Unhosted
-- What a host writer produced is what was received and what is held, over the moments of a run
pub mod Delivered
-- A run has no more moments than its steps can have: a drive round has one for each stream, and a step
-- makes one stream at most
pub mod Counted
-- Worked runs with host writers, computed: what was answered, produced, received, held, used and heard,
-- as worked out by hand
pub mod HostRows
-- Worked runs with host readers, computed: what was answered, received, taken, handed over, reported,
-- told, used and granted, as worked out by hand
pub mod ReaderRows
-- Worked runs with pipes from a host writer to a host reader, computed: what was answered, produced,
-- received, taken, held and told, as worked out by hand
pub mod PipeRows
-- What a stream's course knows of a stream of the machine: all but addresses, payload, received items,
-- and who it is that has an end
pub mod Tracing
-- What a read, a write, a delivery, a cancel, a drop or a move of an end does to a stream of the machine
-- is what its course says
pub mod CourseLemmas
-- From moments to runs: where each moment does to a stream what its course says, the codes of a run are
-- those of its events
pub mod CourseRuns
-- A change at one stream and its host ends leaves every other stream as it is
pub mod Apart
-- What a moment of a run is to each stream: to none it is anything, or to one, or one is made in it
pub mod Happenings
-- What the machine does without host ends is nothing to a stream, or one event of it; and that leads
-- where its course leads
pub mod SingleSteps
-- What the machine does by a poll of a set is an event of the member that it tells; a pair makes a
-- stream; and what else is done without host ends is nothing to a stream
pub mod RestSteps
-- What is done to host ends, and the drop of an end that a host end goes with, is nothing to a stream or
-- one event of it
pub mod HostSteps
-- The turn of a host end for an open read or write is its course's, with the records that it used, and
-- changes no other stream
pub mod TurnCourses
-- The round of a pipe is its course's, with the records that its host ends used, and changes no other
-- stream
pub mod PipeCourses
-- Every moment of a run is nothing to a stream, or one event of it that leads where its course leads, or
-- makes it
pub mod StreamsApart
-- Streams are isolated in every run
pub mod Isolated
-- Courses of single streams, computed: events and codes of streams out of random runs of another
-- implementation of the machine, among them pipes, moves of both ends and host readers
mod CourseRows
-- Courses of single streams, computed: events and codes of streams out of random runs of another
-- implementation of the machine, among them pipes, moves of both ends and host readers
mod MoreCourseRows
-- Worked runs of the machine with host writers, computed: the events of a stream, the codes that are
-- answered, the codes of these events, and the stream as it is at the end
mod IsolationRows
