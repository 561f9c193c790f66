use Rattle.std.proofs.Common.{◌<◌, length, refl, ap, ◌∙◌, arith}
use Rattle.std.proofs.lemmas.List.{length-map}
use Rattle.std.proofs.lemmas.Option.{slice_get_read, slice_get-map}
use Rattle.std.specs.Prelude.{option_map}
use Rattle.strm_program_ends.specs.Polls.{said_of, IsPoll}
use Rattle.strm_program_ends.proofs.queue_writer.QueueWriterHostWriter.record_at.Goals as goal

pub index-poll-requires : goal.index-poll-requires
index-poll-requires c =
    let s = c.args.self.now in
    omega (arith, c.requires, length-map s.polls.items (said_of s.fed.payload s.fed.items), s.polls.ok.0)

pub copy-requires : goal.copy-requires
copy-requires c =
    let s = c.args.self.now in
    let within : c.args.index < length s.polls.items = omega (arith, c.requires, length-map s.polls.items (said_of s.fed.payload s.fed.items)) in
    let is : IsPoll s.fed.items c.index-poll.result.now = rw c.index-poll.ensures (s.polled c.args.index c.index-poll.result.now within) in
    record { there = is.0; few = is.1 }

pub returns-clause-exact : goal.returns-clause-exact
returns-clause-exact c =
    let s = c.args.self.now in
    let within : c.args.index < length s.polls.items = omega (arith, c.requires, length-map s.polls.items (said_of s.fed.payload s.fed.items)) in
    slice_get-map (said_of s.fed.payload s.fed.items) s.polls.items c.args.index
    ∙ ap (option_map (said_of s.fed.payload s.fed.items)) (slice_get_read s.polls.items (length s.polls.items) c.args.index c.index-poll.result.now refl within c.index-poll.ensures)
    ∙ rw c.in_ok-items.ensures refl
