-- Records that a poll uses have a place on a tape: a stated room is a count, and no more was taken than was
-- offered; and which streams have reads with few items left.
use Rattle.std.proofs.Common.{◌≡◌, ◌⊎◌, inl, inr, zero, suc, ◌+◌, ℕ, ◌==◌, ◌<◌, ◌≤◌, Bool, true, false, ◌||◌, ◌&&◌, cond, List, [], ◌∷◌, ◌++◌, length, take, drop, get_or, set, Option, Some, None, refl, sym, ap, subst, ◌∙◌, arith, append_assoc}
use Rattle.std.specs.Prelude.{nat_le}
use Rattle.std.proofs.lemmas.Bool.{cond_both, eqb-true, leb-true}
use Rattle.std.proofs.lemmas.List.Elements.{All-nil, All-push}
use Rattle.strm_codes.specs.declared.codes.ReturnCode.{ReturnCode}
use Rattle.strm_codes.specs.declared.codes.StreamResult.{StreamResult}
use Rattle.strm_codes.specs.declared.codes.StreamResult.TheVariants as results
use Rattle.strm_codes.specs.declared.refusals.Refusal.{Refusal}
use Rattle.strm_buffers.specs.Listing.{Item}
use Rattle.strm_buffers.specs.declared.answers.Answer.{Answer}
use Rattle.strm_buffers.specs.declared.answers.ReaderSaid.{ReaderSaid}
use Rattle.strm_buffers.specs.Said.{WriterSaid}
use Rattle.strm_buffers.specs.HostRules.{breaks_as_writer, breaks_as_reader}
use Rattle.strm_machine.specs.Meetings.{begun}
use Rattle.strm_machine.specs.Operating.{with_received}
use Rattle.strm_machine.specs.Tests.{named, stream_named, items_asked}
use Rattle.strm_machine.specs.State.{producer_at, consumer_at, is_host, no_stream}
use Rattle.strm_machine.specs.Acts.{act_of}
use Rattle.strm_machine.specs.Reactions.{reaction}
use Rattle.strm_machine.specs.Refusals.{front_reasons, handle_reasons, own_reasons, last_reasons}
use Rattle.strm_machine.specs.Sides.{opposite, end_of, with_operation}
use Rattle.strm_machine.specs.declared.acts.Act.{Act}
use Rattle.strm_machine.specs.declared.acts.Act.TheVariants.{OnEnd}
use Rattle.strm_machine.specs.declared.acts.EndAct.TheVariants.{Operate}
use Rattle.strm_machine.specs.declared.acts.HostAct.{HostAct}
use Rattle.strm_machine.specs.declared.acts.HostAct.TheVariants.{New, Feed, Pipe, Grant}
use Rattle.strm_machine.specs.declared.acts.NamedEnd.{NamedEnd}
use Rattle.strm_machine.specs.declared.replies.Reply.{Reply}
use Rattle.strm_machine.specs.declared.replies.Reply.TheVariants as replies
use Rattle.strm_machine.specs.declared.stops.Stop.TheVariants.{HostFailed, HostBroke, BadItem, StoreTrapped}
use Rattle.strm_machine.specs.declared.streams.HostEnd.TheVariants as ends
use Rattle.strm_machine.specs.declared.streams.Operation.{Operation}
use Rattle.strm_machine.specs.declared.streams.Owner.{Owner}
use Rattle.strm_machine.specs.declared.streams.Owner.TheVariants.{Host, Gone}
use Rattle.strm_machine.specs.declared.streams.Side.{Side}
use Rattle.strm_machine.specs.declared.streams.Side.TheVariants.{Writing, Reading}
use Rattle.strm_machine.specs.declared.streams.Stream.{Stream}
use Rattle.strm_machine.specs.declared.steps.Step.{Step}
use Rattle.strm_machine.proofs.RefusalLemmas.{none_of_both, region_fits}
use Rattle.strm_host_machine.specs.World.{World, stream_in, writer_at, reader_at, held_of, with_kept, with_writer, with_reader, leaves_writer, leaves_reader, with_stream_in, with_guests}
use Rattle.strm_host_machine.specs.Ends.{Writer, Reader, no_writer, no_reader, writer_in, reader_in, polled_writer, polled_reader, given_writer, fed_writer, granted_reader, closed_writer, closed_reader}
use Rattle.strm_host_machine.specs.Outcomes.{Outcome, Goes, Stops, Stuck, stops, done, then_on, of_reply}
use Rattle.strm_host_machine.specs.Polls.{AfterWriter, is_failed, same_flag, same_room, is_writer_poll, writer_judged, writer_says, polls_writer, AfterReader, is_reader_poll, tells_truly, reader_judged, reader_says, polls_reader}
use Rattle.strm_host_machine.specs.WriterTurn.{receives, with_answer, produced_result, hands_out, is_produced, produces, writer_turn, lowered_items}
use Rattle.strm_host_machine.specs.ReaderTurn.{lifted_items, reader_with_taken, gives_up, reader_turn}
use Rattle.strm_host_machine.specs.Settling.{answered_with, result_of, moved_on, with_some_received}
use Rattle.strm_host_machine.specs.Piping.{wants_items, fetches, gathered, passed_on, offers, is_done_with, is_run_dry, both_gone, ends_if_done, pipe_round}
use Rattle.strm_host_machine.specs.Driving.{if_open, driven_by, drive_turn, numbers_from, driven}
use Rattle.strm_host_machine.specs.Attaching.{has_items, hosts_new, is_dry, piped, piped_by, without_ends, pipes, forsakes}
use Rattle.strm_host_machine.specs.HostRefusals.{refusal_in}
use Rattle.strm_host_machine.specs.Steps.{reacts, operates_by, drops_in, on_host, performs_by, performs_in, unless_refused_in, outcome, outcome_of_step}
use Rattle.strm_host_machine.proofs.TouchLemmas.{touch-by}
use Rattle.strm_host_machine.proofs.LaterLemmas.{Used, all-set, StreamLater, stream_twice, operation_later, received_later, moved_later, without_ends_later}
use Rattle.strm_tape.specs.Spelling.{IsSpelledRoom}
use Rattle.strm_tape_runs.specs.Marks.{FairRoom, FairTaking}

-- the items that an operation has left are a count
abbrev pub LeftFew : Option Operation → Type 0
LeftFew None = Unit {0}
LeftFew (Some operation) = operation.left < 268435456

-- those of a stream's read are
abbrev pub ReadsFew : Stream → Type 0
ReadsFew stream = LeftFew stream.reader.operation

-- RECORDS

room_same : (a b : Option ℕ) → same_room a b ≡ true → IsSpelledRoom b → IsSpelledRoom a
room_same None b e h = tt
room_same (Some a) None e h = cc
room_same (Some a) (Some b) e h = let same = eqb-true a b e in omega (arith, h, same)

pub both_true : (a b : Bool) → (a && b) ≡ true → (a ≡ true) × (b ≡ true)
both_true true true e = (refl, refl)
both_true true false e = cc
both_true false b e = cc

pub poll_fair : (room : Option ℕ) (finish : Bool) (said : WriterSaid) → is_writer_poll room finish said ≡ true → IsSpelledRoom room → FairRoom said
poll_fair room finish said e h = room_same said.room room (both_true (same_room said.room room) (same_flag said.finish finish) e).0 h

pub taking_fair : (offered since : ℕ) (finish : Bool) (said : ReaderSaid) → is_reader_poll offered since finish said ≡ true → FairTaking said
taking_fair offered since finish said e =
    let first = both_true (said.offered == offered) ((said.since == since) && (same_flag said.finish finish && nat_le said.taken offered)) e in
    let second = both_true (said.since == since) (same_flag said.finish finish && nat_le said.taken offered) first.1 in
    let third = both_true (same_flag said.finish finish) (nat_le said.taken offered) second.1 in
    let same = eqb-true said.offered offered first.0 in
    let most = leb-true said.taken offered third.1 in
    omega (arith, same, most)

-- STREAMS

pub received_few : (stream : Stream) (n : ℕ) → ReadsFew stream → ReadsFew (with_some_received stream n)
received_few stream n h = cond_both (n == 0) stream (with_received stream n) ReadsFew (λ e. h) (λ e. h)

pub without_ends_few : (stream : Stream) → ReadsFew stream → ReadsFew (without_ends stream)
without_ends_few stream h = h

pub read_on_few : (stream : Stream) (read : Operation) (n : ℕ) (result : Option StreamResult) → read.left < 268435456 → ReadsFew (moved_on Reading stream read n result)
unfolding moved_on
read_on_few stream read n None h = omega (arith, h)
read_on_few stream read n (Some results.Completed) h = omega (arith, h)
read_on_few stream read n (Some results.Cancelled) h = omega (arith, h)
read_on_few stream read n (Some results.Dropped) h = omega (arith, h)

pub written_on_few : (stream : Stream) (write : Operation) (n : ℕ) (result : Option StreamResult) → ReadsFew stream → ReadsFew (moved_on Writing stream write n result)
unfolding moved_on
written_on_few stream write n None h = received_few stream n h
written_on_few stream write n (Some results.Completed) h = received_few stream n h
written_on_few stream write n (Some results.Cancelled) h = received_few stream n h
written_on_few stream write n (Some results.Dropped) h = received_few stream n h
