-- Worked runs with pipes from a host writer to a host reader, computed: what was answered, produced, received,
-- taken, held and told, as worked out by hand.
use Rattle.std.proofs.Common.{◌≡◌, ℕ, Bool, true, false, List, [], ◌∷◌, Option, Some, None, refl}
use Rattle.std.specs.Prelude.{pos, map}
use Rattle.strm_codes.specs.declared.codes.TransmitKind.{TransmitKind}
use Rattle.strm_codes.specs.declared.codes.TransmitKind.TheVariants.{Stream as AStream, Future}
use Rattle.strm_codes.specs.declared.payloads.Payload.TheVariants.{One}
use Rattle.strm_codes.specs.declared.scalars.Scalar.TheVariants.{U8}
use Rattle.strm_buffers.specs.declared.answers.Answer.{Answer}
use Rattle.strm_buffers.specs.declared.answers.Answer.TheVariants as answers
use Rattle.strm_buffers.specs.declared.answers.ReaderSaid.{ReaderSaid}
use Rattle.strm_buffers.specs.Listing.{Item}
use Rattle.strm_buffers.specs.Said.{WriterSaid}
use Rattle.strm_machine.specs.State.{empty}
use Rattle.strm_machine.specs.Moments.{received, decoded}
use Rattle.strm_machine.specs.declared.streams.Owner.{Owner}
use Rattle.strm_machine.specs.declared.streams.Owner.TheVariants.{Host, Gone}
use Rattle.strm_machine.specs.declared.steps.Step.{Step}
use Rattle.strm_machine.specs.declared.steps.Step.TheVariants as steps
use Rattle.strm_machine.specs.declared.replies.Reply.{Reply}
use Rattle.strm_machine.specs.declared.replies.Reply.TheVariants as replies
use Rattle.strm_host_machine.specs.Ends.{Writer, Reader, no_writer, no_reader}
use Rattle.strm_host_machine.specs.World.{World, stream_in, writer_at, reader_at, with_stream_in}
use Rattle.strm_host_machine.specs.Attaching.{hosts_new, pipes}
use Rattle.strm_host_machine.specs.Piping.{pipe_round}
use Rattle.strm_host_machine.specs.Driving.{drive_turn}
use Rattle.strm_host_machine.specs.HostRefusals.{refusal_in}
use Rattle.strm_host_machine.specs.Steps.{performs_in, outcome}
use Rattle.strm_host_laws.specs.HostMoments.{HostMoment, host_moments, end_world}
use Rattle.strm_host_laws.specs.HostLaws.{produced_on, held_first, host_got, all_taken, held_for_owner, is_pipe_of}

abbrev all_items : List ℕ → List Item
all_items ns = map (λ n. pos n ∷ []) ns

-- a poll of the writer without stated room
abbrev gave : List ℕ → Answer → WriterSaid
gave ns answer = record { room = None; finish = false; payload = One U8; items = all_items ns; answer = answer }

-- a poll that offered so many items, of which the reader took so many
abbrev took : ℕ → ℕ → ℕ → Answer → ReaderSaid
took offered since taken answer = record {
  offered = offered;
  since = since;
  finish = false;
  taken = taken;
  bad = false;
  answer = answer;
}

-- a host writer of bytes that holds these, and has these records to come
abbrev writer : TransmitKind → List ℕ → List WriterSaid → Writer
writer kind held coming = record no_writer { kind = kind; payload = One U8; holds = all_items held; coming = coming }

-- a host reader of bytes that tells what it took
abbrev reader : TransmitKind → List ReaderSaid → Reader
reader kind coming = record no_reader { kind = kind; payload = One U8; holds = Some []; coming = coming }

-- an unused store with these
abbrev among : Writer → Reader → World
among one two = record {
  state = empty 0 (record { handles = 8; places = 8 });
  writers = one ∷ [];
  readers = two ∷ [];
}

-- what the laws speak of, of stream 0, host writer 0 and host reader 0
record Account : Type 0 where
  replies : List Reply
  pipe : Bool
  first : List Item
  produced_all : List Item
  got : List (Option Item)
  taken : List (Option Item)
  held : List Item
  tells : Option (List Item)
  count : ℕ
  owner : Owner
  writer_closed : Bool
  reader_closed : Bool

abbrev account_of : List HostMoment → World → Account
account_of all last = record {
  replies = map (λ m. m.reply) all;
  pipe = is_pipe_of 0 0 all;
  first = held_first 0 all;
  produced_all = produced_on 0 all;
  got = host_got 0 all;
  taken = all_taken 0 all;
  held = held_for_owner last (stream_in last 0).writer.owner;
  tells = (reader_at last 0).holds;
  count = received 0 last.state;
  owner = (stream_in last 0).writer.owner;
  writer_closed = (writer_at last 0).closed;
  reader_closed = (reader_at last 0).closed;
}

abbrev account : Writer → Reader → List Step → Account
account one two run = account_of (host_moments (among one two) run) (end_world (among one two) (host_moments (among one two) run))

-- so many drive rounds of a pipe
abbrev driven_twice : List Step
driven_twice = steps.HostNew 0 ∷ steps.Pipe 0 0 ∷ steps.Drive ∷ steps.Drive ∷ []

abbrev driven_thrice : List Step
driven_thrice = steps.HostNew 0 ∷ steps.Pipe 0 0 ∷ steps.Drive ∷ steps.Drive ∷ steps.Drive ∷ []

abbrev replied_twice : List Reply
replied_twice = replies.Number 0 ∷ replies.Done ∷ replies.Done ∷ replies.Done ∷ []

abbrev replied_thrice : List Reply
replied_thrice = replies.Number 0 ∷ replies.Done ∷ replies.Done ∷ replies.Done ∷ replies.Done ∷ []

-- the reader waits for what it was offered, and is polled again before the writer is; then the writer gives three
-- items, of which one is kept
account-kept : account (writer AStream (7 ∷ []) (gave (1 ∷ 2 ∷ 3 ∷ []) answers.Completed ∷ []))
    (reader AStream (took 1 0 0 answers.Pending ∷ took 1 0 1 answers.Completed ∷ took 3 0 2 answers.Completed ∷ [])) driven_thrice
    ≡ record {
      replies = replied_thrice;
      pipe = true;
      first = all_items (7 ∷ []);
      produced_all = all_items (7 ∷ 1 ∷ 2 ∷ 3 ∷ []);
      got = map Some (all_items (7 ∷ 1 ∷ 2 ∷ []));
      taken = map Some (all_items (7 ∷ 1 ∷ 2 ∷ []));
      held = all_items (3 ∷ []);
      tells = Some (all_items (7 ∷ 1 ∷ 2 ∷ []));
      count = 3;
      owner = Host 0;
      writer_closed = false;
      reader_closed = false;
    }
unfolding outcome performs_in refusal_in hosts_new pipes pipe_round drive_turn with_stream_in decoded
account-kept = refl

-- a reader that wants no more: what is kept is given up, and both ends are closed
account-given_up : account (writer AStream [] (gave (1 ∷ 2 ∷ 3 ∷ []) answers.Completed ∷ []))
    (reader AStream (took 3 0 1 answers.Completed ∷ took 2 0 1 answers.Dropped ∷ [])) driven_thrice
    ≡ record {
      replies = replied_thrice;
      pipe = true;
      first = [];
      produced_all = all_items (1 ∷ 2 ∷ 3 ∷ []);
      got = map Some (all_items (1 ∷ 2 ∷ []));
      taken = map Some (all_items (1 ∷ 2 ∷ []));
      held = [];
      tells = Some (all_items (1 ∷ 2 ∷ []));
      count = 2;
      owner = Gone;
      writer_closed = true;
      reader_closed = true;
    }
unfolding outcome performs_in refusal_in hosts_new pipes pipe_round drive_turn with_stream_in decoded
account-given_up = refl

-- a writer that has no more to come: the pipe ends in the round in which its last item is taken
account-dry : account (writer AStream [] (gave (4 ∷ 5 ∷ []) answers.Dropped ∷ []))
    (reader AStream (took 2 0 1 answers.Completed ∷ took 1 0 1 answers.Completed ∷ [])) driven_twice
    ≡ record {
      replies = replied_twice;
      pipe = true;
      first = [];
      produced_all = all_items (4 ∷ 5 ∷ []);
      got = map Some (all_items (4 ∷ 5 ∷ []));
      taken = map Some (all_items (4 ∷ 5 ∷ []));
      held = [];
      tells = Some (all_items (4 ∷ 5 ∷ []));
      count = 2;
      owner = Gone;
      writer_closed = true;
      reader_closed = true;
    }
unfolding outcome performs_in refusal_in hosts_new pipes pipe_round drive_turn with_stream_in decoded
account-dry = refl

-- a future, whose reader takes the value, and answers Completed in the next round
account-future : account (writer Future [] (gave (9 ∷ []) answers.Completed ∷ []))
    (reader Future (took 1 0 1 answers.Pending ∷ took 0 1 0 answers.Completed ∷ [])) driven_twice
    ≡ record {
      replies = replied_twice;
      pipe = true;
      first = [];
      produced_all = all_items (9 ∷ []);
      got = map Some (all_items (9 ∷ []));
      taken = map Some (all_items (9 ∷ []));
      held = [];
      tells = Some (all_items (9 ∷ []));
      count = 1;
      owner = Gone;
      writer_closed = true;
      reader_closed = true;
    }
unfolding outcome performs_in refusal_in hosts_new pipes pipe_round drive_turn with_stream_in decoded
account-future = refl

-- a writer that held two items when the future was made passes both: so the law asks that it held no more than one
account-two : account (writer Future (1 ∷ 2 ∷ []) []) (reader Future (took 2 0 2 answers.Completed ∷ [])) (steps.HostNew 0 ∷ steps.Pipe 0 0 ∷ steps.Drive ∷ [])
    ≡ record {
      replies = replies.Number 0 ∷ replies.Done ∷ replies.Done ∷ [];
      pipe = true;
      first = all_items (1 ∷ 2 ∷ []);
      produced_all = all_items (1 ∷ 2 ∷ []);
      got = map Some (all_items (1 ∷ 2 ∷ []));
      taken = map Some (all_items (1 ∷ 2 ∷ []));
      held = [];
      tells = Some (all_items (1 ∷ 2 ∷ []));
      count = 2;
      owner = Gone;
      writer_closed = true;
      reader_closed = true;
    }
unfolding outcome performs_in refusal_in hosts_new pipes pipe_round drive_turn with_stream_in decoded
account-two = refl
