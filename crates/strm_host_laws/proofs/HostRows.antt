-- Worked runs with host writers, computed: what was answered, produced, received, held, used and heard, as
-- worked out by hand.
use Rattle.std.proofs.Common.{◌≡◌, ℕ, Bool, true, false, List, [], ◌∷◌, Option, Some, refl}
use Rattle.std.specs.Prelude.{pos, map}
use Rattle.strm_codes.specs.declared.codes.ReturnCode.TheVariants.{Blocked, Completed, Dropped}
use Rattle.strm_codes.specs.declared.codes.TransmitIndex.{TransmitIndex}
use Rattle.strm_codes.specs.declared.codes.TransmitIndex.TheVariants as index
use Rattle.strm_codes.specs.declared.payloads.Payload.TheVariants.{One}
use Rattle.strm_codes.specs.declared.scalars.Scalar.TheVariants.{U8}
use Rattle.strm_memory.specs.Items.{items, stored}
use Rattle.strm_memory.specs.Loads.{decode, encode}
use Rattle.strm_buffers.specs.declared.answers.Answer.{Answer}
use Rattle.strm_buffers.specs.declared.answers.Answer.TheVariants as answers
use Rattle.strm_buffers.specs.Listing.{Item}
use Rattle.strm_buffers.specs.Said.{WriterSaid}
use Rattle.strm_buffers.specs.Tells.{Heard}
use Rattle.strm_machine.specs.State.{empty}
use Rattle.strm_machine.specs.Operating.{operate}
use Rattle.strm_machine.specs.Endings.{delivered, dropped}
use Rattle.strm_machine.specs.Moments.{received, decoded}
use Rattle.strm_machine.specs.Refusals.{refusal}
use Rattle.strm_machine.specs.Reactions.{performs, reaction}
use Rattle.strm_machine.specs.declared.streams.Owner.{Owner}
use Rattle.strm_machine.specs.declared.streams.Owner.TheVariants.{Host, Gone}
use Rattle.strm_machine.specs.declared.steps.Step.{Step}
use Rattle.strm_machine.specs.declared.steps.Step.TheVariants as steps
use Rattle.strm_machine.specs.declared.replies.Reply.{Reply}
use Rattle.strm_machine.specs.declared.replies.Reply.TheVariants as replies
use Rattle.strm_host_machine.specs.Ends.{Writer, no_writer}
use Rattle.strm_host_machine.specs.World.{World, stream_in, writer_at, with_stream_in}
use Rattle.strm_host_machine.specs.Settling.{moved_on}
use Rattle.strm_host_machine.specs.WriterTurn.{writer_turn}
use Rattle.strm_host_machine.specs.Attaching.{hosts_new}
use Rattle.strm_host_machine.specs.Driving.{drive_turn}
use Rattle.strm_host_machine.specs.HostRefusals.{refusal_in}
use Rattle.strm_host_machine.specs.Steps.{performs_in, outcome}
use Rattle.strm_host_laws.specs.HostMoments.{HostMoment, host_moments, end_world}
use Rattle.strm_host_laws.specs.HostLaws.{all_used, all_fed, produced_on, host_got, held_for_owner, is_hosted}

abbrev bytes : TransmitIndex
bytes = index.Stream (One U8)

abbrev item : ℕ → Item
item n = pos n ∷ []

abbrev all_items : List ℕ → List Item
all_items ns = map item ns

-- a poll with this room
abbrev said : ℕ → List ℕ → Answer → WriterSaid
said room ns answer = record { room = Some room; finish = false; payload = One U8; items = all_items ns; answer = answer }

-- a host writer of bytes that holds these at first, with these records to come
abbrev writer : List ℕ → List WriterSaid → Writer
writer held coming =
    record no_writer { payload = One U8; holds = all_items held; coming = coming; heard = Some [] }

-- an unused store with this host writer
abbrev among : Writer → World
among one = record {
  state = empty 0 (record { handles = 8; places = 8 });
  writers = one ∷ [];
  readers = [];
}

-- what the laws speak of, of stream 0 and host writer 0
record Account : Type 0 where
  replies : List Reply
  made : Bool
  produced : List Item
  taken : List (Option Item)
  held : List Item
  count : ℕ
  owner : Owner
  used : List WriterSaid
  fed : List (ℕ × List ℕ)
  spoken : ℕ
  closed : Bool
  heard : Heard (List ℕ)

abbrev account_of : List HostMoment → World → Account
account_of all last = record {
  replies = map (λ m. m.reply) all;
  made = is_hosted 0 all;
  produced = produced_on 0 all;
  taken = host_got 0 all;
  held = held_for_owner last (stream_in last 0).writer.owner;
  count = received 0 last.state;
  owner = (stream_in last 0).writer.owner;
  used = all_used 0 all;
  fed = all_fed 0 all;
  spoken = (writer_at last 0).spoken;
  closed = (writer_at last 0).closed;
  heard = (writer_at last 0).heard;
}

abbrev account : Writer → List Step → Account
account one run = account_of (host_moments (among one) run) (end_world (among one) (host_moments (among one) run))

-- held at first, one item; then two polls of which items are left over, and one between them that waits and
-- is driven; a feed behind the second record
abbrev records : List WriterSaid
records =
    said 2 (1 ∷ 2 ∷ 3 ∷ []) answers.Completed
    ∷ said 1 [] answers.Pending
    ∷ said 1 (9 ∷ 8 ∷ []) answers.Completed
    ∷ []

abbrev served : List Step
served =
    steps.Guest 16
    ∷ steps.HostNew 0
    ∷ steps.Lower 0 0 bytes
    ∷ steps.Read 0 bytes 1 0 3
    ∷ steps.Read 0 bytes 1 4 2
    ∷ steps.Read 0 bytes 1 8 4
    ∷ steps.Read 0 bytes 1 9 1
    ∷ steps.Feed 0 (65 ∷ [])
    ∷ steps.Drive
    ∷ steps.Event 0 1
    ∷ []

account-served : account (writer (7 ∷ []) records) served ≡ record {
  replies = replies.Number 0
      ∷ replies.Number 0
      ∷ replies.Number 1
      ∷ replies.Code (Completed 1)
      ∷ replies.Code (Completed 2)
      ∷ replies.Code (Completed 1)
      ∷ replies.Code Blocked
      ∷ replies.Done
      ∷ replies.Done
      ∷ replies.Event (Some (Completed 1))
      ∷ [];
  made = true;
  produced = all_items (7 ∷ 1 ∷ 2 ∷ 3 ∷ 9 ∷ 8 ∷ []);
  taken = map Some (all_items (7 ∷ 1 ∷ 2 ∷ 3 ∷ 9 ∷ []));
  held = all_items (8 ∷ []);
  count = 5;
  owner = Host 0;
  used = records;
  fed = (2, 65 ∷ []) ∷ [];
  spoken = 3;
  closed = false;
  heard = Some ((2, 65 ∷ []) ∷ []);
}
unfolding outcome performs_in refusal_in hosts_new writer_turn drive_turn with_stream_in moved_on reaction refusal performs operate delivered dropped decode encode items stored decoded
account-served = refl

-- the same, and then the read end goes: what is held is given up, and the host writer closed
account-given_up : account (writer (7 ∷ []) (said 2 (1 ∷ 2 ∷ 3 ∷ []) answers.Completed ∷ []))
    (steps.Guest 16
    ∷ steps.HostNew 0
    ∷ steps.Lower 0 0 bytes
    ∷ steps.Read 0 bytes 1 0 3
    ∷ steps.Read 0 bytes 1 4 2
    ∷ steps.DropRead 0 bytes 1
    ∷ steps.Feed 0 (66 ∷ [])
    ∷ [])
    ≡ record {
      replies = replies.Number 0
          ∷ replies.Number 0
          ∷ replies.Number 1
          ∷ replies.Code (Completed 1)
          ∷ replies.Code (Completed 2)
          ∷ replies.Done
          ∷ replies.Done
          ∷ [];
      made = true;
      produced = all_items (7 ∷ 1 ∷ 2 ∷ 3 ∷ []);
      taken = map Some (all_items (7 ∷ 1 ∷ 2 ∷ []));
      held = [];
      count = 3;
      owner = Gone;
      used = said 2 (1 ∷ 2 ∷ 3 ∷ []) answers.Completed ∷ [];
      fed = (1, 66 ∷ []) ∷ [];
      spoken = 1;
      closed = true;
      heard = Some ((1, 66 ∷ []) ∷ []);
    }
unfolding outcome performs_in refusal_in hosts_new writer_turn drive_turn with_stream_in moved_on reaction refusal performs operate delivered dropped decode encode items stored decoded
account-given_up = refl

-- a host writer that has no more to come: its last item is received first, and then its end is gone
account-over : account (writer [] (said 1 (5 ∷ 6 ∷ []) answers.Dropped ∷ []))
    (steps.Guest 16
    ∷ steps.HostNew 0
    ∷ steps.Lower 0 0 bytes
    ∷ steps.Read 0 bytes 1 0 1
    ∷ steps.Read 0 bytes 1 1 3
    ∷ steps.Read 0 bytes 1 2 1
    ∷ [])
    ≡ record {
      replies = replies.Number 0
          ∷ replies.Number 0
          ∷ replies.Number 1
          ∷ replies.Code (Completed 1)
          ∷ replies.Code (Completed 1)
          ∷ replies.Code (Dropped 0)
          ∷ [];
      made = true;
      produced = all_items (5 ∷ 6 ∷ []);
      taken = map Some (all_items (5 ∷ 6 ∷ []));
      held = [];
      count = 2;
      owner = Gone;
      used = said 1 (5 ∷ 6 ∷ []) answers.Dropped ∷ [];
      fed = [];
      spoken = 1;
      closed = true;
      heard = Some [];
    }
unfolding outcome performs_in refusal_in hosts_new writer_turn drive_turn with_stream_in moved_on reaction refusal performs operate delivered dropped decode encode items stored decoded
account-over = refl
