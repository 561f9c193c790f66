-- The turn is the machine's, and the host ends that it had are those of the stream before it.
use Rattle.strm_host_store.proofs.TurnLemmas.{turns, turn_among}
use Rattle.strm_host_store.proofs.host_store.HostStore.turn.Goals as goal

pub invariant_of-self : goal.invariant_of-self
invariant_of-self c =
    turn_among c.args.self.now c.self.inside.store c.drive_stream-answer.new.self
    c.self.inside.ends.writers.items c.drive_stream-answer.new.hosts.writers.items c.forget_pair.new.self.writers.items
    c.self.inside.ends.readers.items c.drive_stream-answer.new.hosts.readers.items c.forget_pair.new.self.readers.items
    c.args.stream c.drive_stream-answer.result c.host_on-writer.result c.host_on-reader.result
    c.drive_stream-answer.ensures.part c.forget_pair.ensures.writers c.forget_pair.ensures.readers

pub returns : goal.returns
returns c = record {
  turns = turns c.args.self.now c.self.inside.store c.drive_stream-answer.new.self
      c.self.inside.ends.writers.items c.drive_stream-answer.new.hosts.writers.items c.forget_pair.new.self.writers.items
      c.self.inside.ends.readers.items c.drive_stream-answer.new.hosts.readers.items c.forget_pair.new.self.readers.items
      c.args.stream c.drive_stream-answer.result c.host_on-writer.result c.host_on-reader.result
      c.self.view_is c.host_on-writer.ensures c.host_on-reader.ensures c.drive_stream-answer.ensures.part c.forget_pair.ensures.writers c.forget_pair.ensures.readers;
}
