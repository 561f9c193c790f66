-- With a host reader across the step is the machine's among host ends.
use Rattle.strm_codes.specs.declared.codes.TransmitIndex.TheVariants as index
use Rattle.strm_machine.specs.declared.streams.Side.TheVariants.{Writing}
use Rattle.strm_host_store.proofs.CallLemmas.{write_among, writes, runs_out}
use Rattle.strm_host_store.proofs.host_store.HostStore.future_write.Goals as goal

pub invariant_of-self : goal.invariant_of-self
invariant_of-self c =
    write_among c.args.self.now c.self.inside.store c.future_write-answer.new.self
    c.self.inside.ends.writers.items c.future_write-answer.new.hosts.writers.items c.forget_reader.new.self.writers.items
    c.self.inside.ends.readers.items c.future_write-answer.new.hosts.readers.items c.forget_reader.new.self.readers.items
    (record { guest = c.args.guest; ty = index.Future c.args.payload; handle = c.args.handle }) c.args.address 1 c.in-Some.number c.future_write-answer.result
    c.future_write-answer.ensures.meets c.forget_reader.ensures.writers c.forget_reader.ensures.readers

pub returns-in-Some : goal.returns-in-Some
returns-in-Some c = record {
  does = writes c.args.self.now c.self.inside.store c.future_write-answer.new.self
      c.self.inside.ends.writers.items c.future_write-answer.new.hosts.writers.items c.forget_reader.new.self.writers.items
      c.self.inside.ends.readers.items c.future_write-answer.new.hosts.readers.items c.forget_reader.new.self.readers.items
      (record { guest = c.args.guest; ty = index.Future c.args.payload; handle = c.args.handle }) c.args.address 1 c.in-Some.number c.future_write-answer.result
      c.self.view_is c.in-Some.ensures c.future_write-answer.ensures.meets c.forget_reader.ensures.writers c.forget_reader.ensures.readers;
  memory = runs_out c.args.self.now c.self.inside.store c.future_write-answer.new.self
      c.self.inside.ends.writers.items c.future_write-answer.new.hosts.writers.items c.forget_reader.new.self.writers.items
      c.self.inside.ends.readers.items c.future_write-answer.new.hosts.readers.items c.forget_reader.new.self.readers.items
      (record { guest = c.args.guest; ty = index.Future c.args.payload; handle = c.args.handle }) c.args.address 1 c.in-Some.number c.future_write-answer.result
      Writing c.self.view_is c.in-Some.ensures (λ never. absurd never);
}
