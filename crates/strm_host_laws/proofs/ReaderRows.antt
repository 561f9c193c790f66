-- Worked runs with host readers, computed: what was answered, received, taken, handed over, reported, told,
-- used and granted, as worked out by hand.
use Rattle.std.proofs.Common.{◌≡◌, ℕ, Bool, true, false, List, [], ◌∷◌, ◌++◌, Option, Some, None, refl}
use Rattle.std.specs.Prelude.{pos, map}
use Rattle.strm_codes.specs.declared.codes.ReturnCode.TheVariants.{Blocked, Completed, Dropped, Cancelled}
use Rattle.strm_codes.specs.declared.codes.TransmitIndex.{TransmitIndex}
use Rattle.strm_codes.specs.declared.codes.TransmitIndex.TheVariants as index
use Rattle.strm_codes.specs.declared.codes.TransmitKind.TheVariants.{Future}
use Rattle.strm_codes.specs.declared.refusals.Refusal.TheVariants as refusals
use Rattle.strm_codes.specs.declared.payloads.Payload.TheVariants.{One}
use Rattle.strm_codes.specs.declared.scalars.Scalar.TheVariants.{U8}
use Rattle.strm_memory.specs.Items.{items, stored}
use Rattle.strm_memory.specs.Loads.{decode, encode}
use Rattle.strm_buffers.specs.declared.answers.Answer.{Answer}
use Rattle.strm_buffers.specs.declared.answers.Answer.TheVariants as answers
use Rattle.strm_buffers.specs.declared.answers.ReaderSaid.{ReaderSaid}
use Rattle.strm_buffers.specs.Listing.{Item}
use Rattle.strm_buffers.specs.Tells.{Heard}
use Rattle.strm_machine.specs.State.{empty}
use Rattle.strm_machine.specs.Making.{with_stream}
use Rattle.strm_machine.specs.Operating.{operate}
use Rattle.strm_machine.specs.Endings.{delivered, dropped, cancelled}
use Rattle.strm_machine.specs.Moments.{received, decoded}
use Rattle.strm_machine.specs.Moves.{with_owner}
use Rattle.strm_machine.specs.Refusals.{refusal}
use Rattle.strm_machine.specs.Reactions.{performs, reaction}
use Rattle.strm_machine.specs.declared.streams.Owner.{Owner}
use Rattle.strm_machine.specs.declared.streams.Owner.TheVariants.{Loose, Host, Gone}
use Rattle.strm_machine.specs.declared.streams.Side.TheVariants.{Writing, Reading}
use Rattle.strm_machine.specs.declared.steps.Step.{Step}
use Rattle.strm_machine.specs.declared.steps.Step.TheVariants as steps
use Rattle.strm_machine.specs.declared.replies.Reply.{Reply}
use Rattle.strm_machine.specs.declared.replies.Reply.TheVariants as replies
use Rattle.strm_laws.specs.Conservation.{writes, all_reported, handed, all_handed}
use Rattle.strm_laws.specs.Laws.{moved_at}
use Rattle.strm_host_machine.specs.Ends.{Reader, no_reader}
use Rattle.strm_host_machine.specs.World.{World, stream_in, reader_at, with_stream_in}
use Rattle.strm_host_machine.specs.Settling.{moved_on}
use Rattle.strm_host_machine.specs.ReaderTurn.{reader_turn}
use Rattle.strm_host_machine.specs.Attaching.{pipes}
use Rattle.strm_host_machine.specs.Driving.{drive_turn}
use Rattle.strm_host_machine.specs.HostRefusals.{refusal_in}
use Rattle.strm_host_machine.specs.Steps.{performs_in, outcome}
use Rattle.strm_host_laws.specs.HostMoments.{HostMoment, host_moments, end_world}
use Rattle.strm_host_laws.specs.HostLaws.{plains, host_got, all_taken, is_pipe_of, was_piped, all_used_by, all_granted}

abbrev bytes : TransmitIndex
bytes = index.Stream (One U8)

abbrev item : ℕ → Item
item n = pos n ∷ []

abbrev all_items : List ℕ → List Item
all_items ns = map item ns

-- a poll that offered so many items, of which it took so many
abbrev took : ℕ → ℕ → Bool → ℕ → Answer → ReaderSaid
took offered since finish taken answer = record {
  offered = offered;
  since = since;
  finish = finish;
  taken = taken;
  bad = false;
  answer = answer;
}

-- a host reader of bytes that tells what it took, with these records to come
abbrev reader : List ReaderSaid → Reader
reader coming =
    record no_reader { payload = One U8; holds = Some []; coming = coming; heard = Some [] }

-- the same of a future of a byte
abbrev value : TransmitIndex
value = index.Future (One U8)

abbrev future_reader : List ReaderSaid → Reader
future_reader coming = record (reader coming) { kind = Future }

-- an unused store with this host reader
abbrev among : Reader → World
among one = record {
  state = empty 0 (record { handles = 8; places = 8 });
  writers = [];
  readers = one ∷ [];
}

-- what the laws speak of, of stream 0 and host reader 0
record Account : Type 0 where
  replies : List Reply
  piped : Bool
  pipe : Bool
  got : List (Option Item)
  taken : List (Option Item)
  handed : List (Option Item)
  tells : Option (List Item)
  count : ℕ
  reports_to_writer : ℕ
  reports_to_reader : ℕ
  owner : Owner
  used : List ReaderSaid
  granted : List (ℕ × ℕ)
  spoken : ℕ
  closed : Bool
  heard : Heard ℕ

abbrev account_of : List HostMoment → World → Account
account_of all last = record {
  replies = map (λ m. m.reply) all;
  piped = was_piped 0 all;
  pipe = is_pipe_of 0 0 all;
  got = host_got 0 all;
  taken = all_taken 0 all;
  handed = all_handed (stream_in last 0).kind 0 (plains all) (moved_at 0 Writing last.state) 0 (writes 0 (plains all));
  tells = (reader_at last 0).holds;
  count = received 0 last.state;
  reports_to_writer = all_reported (stream_in last 0).kind 0 Writing (plains all);
  reports_to_reader = all_reported (stream_in last 0).kind 0 Reading (plains all);
  owner = (stream_in last 0).reader.owner;
  used = all_used_by 0 all;
  granted = all_granted 0 all;
  spoken = (reader_at last 0).spoken;
  closed = (reader_at last 0).closed;
  heard = (reader_at last 0).heard;
}

-- all read ends are loose, as a lift of each leaves them
abbrev lifted : World → World
lifted w =
    record w { state = record w.state { streams = map (λ stream. with_owner Reading stream Loose) w.state.streams } }

-- a run, behind which its read end is lifted, and then another
abbrev account : Reader → List Step → List Step → Account
account one first second =
    let before = host_moments (among one) first in
    let w = lifted (end_world (among one) before) in
    let after = host_moments w second in
    account_of (before ++ after) (end_world w after)

-- a write that a guest read in part is piped: its report is withdrawn, and settled as a whole
account-part_read : account (reader (took 3 0 false 3 answers.Completed ∷ []))
    (steps.Guest 16
    ∷ steps.Guest 16
    ∷ steps.Between 0 1 bytes
    ∷ steps.Poke 0 0 (1 ∷ 2 ∷ 3 ∷ 4 ∷ 5 ∷ [])
    ∷ steps.Write 0 bytes 1 0 5
    ∷ steps.Read 1 bytes 1 0 2
    ∷ [])
    (steps.Pipe 0 0
    ∷ steps.Event 0 1
    ∷ steps.Grant 0 9
    ∷ steps.Drive
    ∷ steps.Event 0 1
    ∷ [])
    ≡ record {
      replies = replies.Number 0
          ∷ replies.Number 1
          ∷ replies.Pair (record { read = 1; write = 1; stream = 0 })
          ∷ replies.Done
          ∷ replies.Code Blocked
          ∷ replies.Code (Completed 2)
          ∷ replies.Done
          ∷ replies.Event None
          ∷ replies.Done
          ∷ replies.Done
          ∷ replies.Event (Some (Completed 5))
          ∷ [];
      piped = true;
      pipe = true;
      got = map Some (all_items (1 ∷ 2 ∷ 3 ∷ 4 ∷ 5 ∷ []));
      taken = map Some (all_items (3 ∷ 4 ∷ 5 ∷ []));
      handed = map Some (all_items (1 ∷ 2 ∷ 3 ∷ 4 ∷ 5 ∷ []));
      tells = Some (all_items (3 ∷ 4 ∷ 5 ∷ []));
      count = 5;
      reports_to_writer = 5;
      reports_to_reader = 2;
      owner = Host 0;
      used = took 3 0 false 3 answers.Completed ∷ [];
      granted = (0, 9) ∷ [];
      spoken = 1;
      closed = false;
      heard = Some ((0, 9) ∷ []);
    }
unfolding outcome performs_in refusal_in pipes reader_turn drive_turn with_stream_in moved_on reaction refusal performs with_stream operate delivered dropped decode encode items stored decoded handed all_handed
account-part_read = refl

-- the same with the event before the lift: nothing is left for the host reader
account-told_before : account (reader [])
    (steps.Guest 16
    ∷ steps.Guest 16
    ∷ steps.Between 0 1 bytes
    ∷ steps.Poke 0 0 (1 ∷ 2 ∷ 3 ∷ 4 ∷ 5 ∷ [])
    ∷ steps.Write 0 bytes 1 0 5
    ∷ steps.Read 1 bytes 1 0 2
    ∷ steps.Event 0 1
    ∷ [])
    (steps.Pipe 0 0
    ∷ steps.Event 0 1
    ∷ steps.Grant 0 9
    ∷ steps.Drive
    ∷ steps.Event 0 1
    ∷ [])
    ≡ record {
      replies = replies.Number 0
          ∷ replies.Number 1
          ∷ replies.Pair (record { read = 1; write = 1; stream = 0 })
          ∷ replies.Done
          ∷ replies.Code Blocked
          ∷ replies.Code (Completed 2)
          ∷ replies.Event (Some (Completed 2))
          ∷ replies.Done
          ∷ replies.Event None
          ∷ replies.Done
          ∷ replies.Done
          ∷ replies.Event None
          ∷ [];
      piped = true;
      pipe = true;
      got = map Some (all_items (1 ∷ 2 ∷ []));
      taken = [];
      handed = map Some (all_items (1 ∷ 2 ∷ []));
      tells = Some [];
      count = 2;
      reports_to_writer = 2;
      reports_to_reader = 2;
      owner = Host 0;
      used = [];
      granted = (0, 9) ∷ [];
      spoken = 0;
      closed = false;
      heard = Some ((0, 9) ∷ []);
    }
unfolding outcome performs_in refusal_in pipes reader_turn drive_turn with_stream_in moved_on reaction refusal performs with_stream operate delivered dropped decode encode items stored decoded handed all_handed
account-told_before = refl

-- a host reader that is done with items offered and takes none breaks its rules: the write is not called, and
-- nothing becomes of the host reader
account-broke : account (reader (took 3 0 false 0 answers.Completed ∷ []))
    (steps.Guest 16 ∷ steps.New 0 bytes ∷ [])
    (steps.Pipe 0 0 ∷ steps.Write 0 bytes 2 0 3 ∷ [])
    ≡ record {
      replies = replies.Number 0
          ∷ replies.Pair (record { read = 1; write = 2; stream = 0 })
          ∷ replies.Done
          ∷ [];
      piped = true;
      pipe = true;
      got = [];
      taken = [];
      handed = [];
      tells = Some [];
      count = 0;
      reports_to_writer = 0;
      reports_to_reader = 0;
      owner = Host 0;
      used = [];
      granted = [];
      spoken = 0;
      closed = false;
      heard = Some [];
    }
unfolding outcome performs_in refusal_in pipes reader_turn drive_turn with_stream_in moved_on reaction refusal performs with_stream operate delivered dropped decode encode items stored decoded handed all_handed
account-broke = refl

-- a write is taken in two polls, the second in a drive round; then the host reader takes one more item and goes
account-goes : account (reader (took 3 0 false 2 answers.Pending ∷ took 1 2 false 1 answers.Completed ∷ took 2 0 false 1 answers.Dropped ∷ []))
    (steps.Guest 16
    ∷ steps.New 0 bytes
    ∷ steps.Poke 0 0 (1 ∷ 2 ∷ 3 ∷ 4 ∷ 5 ∷ [])
    ∷ [])
    (steps.Pipe 0 0
    ∷ steps.Grant 0 1
    ∷ steps.Write 0 bytes 2 0 3
    ∷ steps.Drive
    ∷ steps.Event 0 2
    ∷ steps.Grant 0 7
    ∷ steps.Write 0 bytes 2 3 2
    ∷ steps.Grant 0 5
    ∷ [])
    ≡ record {
      replies = replies.Number 0
          ∷ replies.Pair (record { read = 1; write = 2; stream = 0 })
          ∷ replies.Done
          ∷ replies.Done
          ∷ replies.Done
          ∷ replies.Code Blocked
          ∷ replies.Done
          ∷ replies.Event (Some (Completed 3))
          ∷ replies.Done
          ∷ replies.Code (Dropped 1)
          ∷ replies.Done
          ∷ [];
      piped = true;
      pipe = true;
      got = map Some (all_items (1 ∷ 2 ∷ 3 ∷ 4 ∷ []));
      taken = map Some (all_items (1 ∷ 2 ∷ 3 ∷ 4 ∷ []));
      handed = map Some (all_items (1 ∷ 2 ∷ 3 ∷ 4 ∷ []));
      tells = Some (all_items (1 ∷ 2 ∷ 3 ∷ 4 ∷ []));
      count = 4;
      reports_to_writer = 4;
      reports_to_reader = 0;
      owner = Gone;
      used = took 3 0 false 2 answers.Pending ∷ took 1 2 false 1 answers.Completed ∷ took 2 0 false 1 answers.Dropped ∷ [];
      granted = (0, 1) ∷ (2, 7) ∷ (3, 5) ∷ [];
      spoken = 3;
      closed = true;
      heard = Some ((0, 1) ∷ (2, 7) ∷ (3, 5) ∷ []);
    }
unfolding outcome performs_in refusal_in pipes reader_turn drive_turn with_stream_in moved_on reaction refusal performs with_stream operate delivered dropped decode encode items stored decoded handed all_handed
account-goes = refl

-- a future's value that a host reader took, and said so in a later poll: the write is done then, and no other
-- can be
account-value : account (future_reader (took 1 0 false 1 answers.Pending ∷ took 0 1 false 0 answers.Completed ∷ []))
    (steps.Guest 16 ∷ steps.New 0 value ∷ steps.Poke 0 4 (7 ∷ []) ∷ [])
    (steps.Pipe 0 0
    ∷ steps.Write 0 value 2 4 1
    ∷ steps.Drive
    ∷ steps.Event 0 2
    ∷ steps.Write 0 value 2 4 1
    ∷ steps.DropWrite 0 value 2
    ∷ [])
    ≡ record {
      replies = replies.Number 0
          ∷ replies.Pair (record { read = 1; write = 2; stream = 0 })
          ∷ replies.Done
          ∷ replies.Done
          ∷ replies.Code Blocked
          ∷ replies.Done
          ∷ replies.Event (Some (Completed 0))
          ∷ replies.Refused refusals.WriteToDroppedFuture
          ∷ replies.Done
          ∷ [];
      piped = true;
      pipe = true;
      got = map Some (all_items (7 ∷ []));
      taken = map Some (all_items (7 ∷ []));
      handed = map Some (all_items (7 ∷ []));
      tells = Some (all_items (7 ∷ []));
      count = 1;
      reports_to_writer = 1;
      reports_to_reader = 0;
      owner = Gone;
      used = took 1 0 false 1 answers.Pending ∷ took 0 1 false 0 answers.Completed ∷ [];
      granted = [];
      spoken = 2;
      closed = true;
      heard = Some [];
    }
unfolding outcome performs_in refusal_in pipes reader_turn drive_turn with_stream_in moved_on reaction refusal performs with_stream operate delivered dropped decode encode items stored decoded handed all_handed
account-value = refl

-- a cancel of a write that a guest read in part, and that is piped then, asks the host reader, and tells what
-- the guest had received
account-cancelled : account (reader (took 1 0 true 0 answers.Cancelled ∷ []))
    (steps.Guest 16
    ∷ steps.New 0 bytes
    ∷ steps.Write 0 bytes 2 0 3
    ∷ steps.Read 0 bytes 1 4 2
    ∷ [])
    (steps.Pipe 0 0
    ∷ steps.CancelWrite 0 bytes 2
    ∷ steps.Drive
    ∷ steps.Event 0 2
    ∷ [])
    ≡ record {
      replies = replies.Number 0
          ∷ replies.Pair (record { read = 1; write = 2; stream = 0 })
          ∷ replies.Code Blocked
          ∷ replies.Code (Completed 2)
          ∷ replies.Done
          ∷ replies.Code Blocked
          ∷ replies.Done
          ∷ replies.Event (Some (Cancelled 2))
          ∷ [];
      piped = true;
      pipe = true;
      got = map Some (all_items (0 ∷ 0 ∷ []));
      taken = [];
      handed = map Some (all_items (0 ∷ 0 ∷ []));
      tells = Some [];
      count = 2;
      reports_to_writer = 2;
      reports_to_reader = 2;
      owner = Host 0;
      used = took 1 0 true 0 answers.Cancelled ∷ [];
      granted = [];
      spoken = 1;
      closed = false;
      heard = Some [];
    }
unfolding outcome performs_in refusal_in pipes reader_turn drive_turn with_stream_in moved_on reaction refusal performs with_stream operate delivered dropped cancelled decode encode items stored decoded handed all_handed
account-cancelled = refl
