-- With a host writer across the step is the machine's among host ends.
use Rattle.strm_codes.specs.declared.codes.TransmitIndex.TheVariants as index
use Rattle.strm_machine.specs.declared.streams.Side.TheVariants.{Reading}
use Rattle.strm_host_store.proofs.CallLemmas.{read_among, reads, runs_out}
use Rattle.strm_host_store.proofs.host_store.HostStore.future_read.Goals as goal

pub invariant_of-self : goal.invariant_of-self
invariant_of-self c =
    read_among c.args.self.now c.self.inside.store c.future_read-answer.new.self
    c.self.inside.ends.writers.items c.future_read-answer.new.hosts.writers.items c.forget_writer.new.self.writers.items
    c.self.inside.ends.readers.items c.future_read-answer.new.hosts.readers.items c.forget_writer.new.self.readers.items
    (record { guest = c.args.guest; ty = index.Future c.args.payload; handle = c.args.handle }) c.args.address 1 c.in-Some.number c.future_read-answer.result
    c.future_read-answer.ensures.meets c.forget_writer.ensures.writers c.forget_writer.ensures.readers

pub returns-in-Some : goal.returns-in-Some
returns-in-Some c = record {
  does = reads c.args.self.now c.self.inside.store c.future_read-answer.new.self
      c.self.inside.ends.writers.items c.future_read-answer.new.hosts.writers.items c.forget_writer.new.self.writers.items
      c.self.inside.ends.readers.items c.future_read-answer.new.hosts.readers.items c.forget_writer.new.self.readers.items
      (record { guest = c.args.guest; ty = index.Future c.args.payload; handle = c.args.handle }) c.args.address 1 c.in-Some.number c.future_read-answer.result
      c.self.view_is c.in-Some.ensures c.future_read-answer.ensures.meets c.forget_writer.ensures.writers c.forget_writer.ensures.readers;
  memory = runs_out c.args.self.now c.self.inside.store c.future_read-answer.new.self
      c.self.inside.ends.writers.items c.future_read-answer.new.hosts.writers.items c.forget_writer.new.self.writers.items
      c.self.inside.ends.readers.items c.future_read-answer.new.hosts.readers.items c.forget_writer.new.self.readers.items
      (record { guest = c.args.guest; ty = index.Future c.args.payload; handle = c.args.handle }) c.args.address 1 c.in-Some.number c.future_read-answer.result
      Reading c.self.view_is c.in-Some.ensures c.future_read-answer.ensures.held;
}
