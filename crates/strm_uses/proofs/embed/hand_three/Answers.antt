-- Each call is the machine's step, and the first stream has the number 0, so what is known is what is known of a
-- store with host ends.
use Rattle.strm_uses.proofs.TransmitLemmas.{Known, known, first_made}
use Rattle.strm_uses.proofs.embed.hand_three.Goals as goal
use Rattle.strm_uses.proofs.embed.hand_three.Goals.{In_ok-told}

all_known : (c : In_ok-told) → Known c.args.bytes.now c.take_event.new.self c.in_ok-read.read c.in_ok-told.told
all_known c =
    known c.args.bytes.now c.in_ok-writer.writer c.in_ok-reader.reader c.in_ok-pair.pair
    c.add_guest.new.self c.add_guest-2.new.self c.new_between.new.self c.write_memory.new.self c.stream_write.new.self c.stream_read.new.self c.take_event.new.self
    c.in_ok-stream_write.field-0 c.in_ok-read.read c.in_ok-told.told c.requires c.sound.ensures
    (record {
      one = rw c.new-store.ensures at c.in_ok-writer.ensures.meets;
      two = c.in_ok-reader.ensures.meets;
      joined = first_made _ _ _ _ _ _ (rw c.new-store.ensures at c.in_ok-writer.ensures.meets) c.in_ok-reader.ensures.meets c.in_ok-pair.ensures.meets;
      poked = rw c.as_slice.ensures.exact at c.in_ok-write_memory.ensures.meets;
      written = λ u. c.in_ok-stream_write.ensures.meets;
      read = λ u. c.in_ok-read.ensures.meets;
      told = c.in_ok-told.ensures.meets;
    })

pub returns-clause-memory : goal.returns-clause-memory
returns-clause-memory c = (all_known c).memory

pub returns-clause-read : goal.returns-clause-read
returns-clause-read c = (all_known c).read

pub returns-clause-told : goal.returns-clause-told
returns-clause-told c = (all_known c).told

pub returns-clause-moved : goal.returns-clause-moved
returns-clause-moved c = (all_known c).moved
