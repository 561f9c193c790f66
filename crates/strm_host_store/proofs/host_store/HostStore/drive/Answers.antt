-- A drive is the machine's round.
use Rattle.strm_machine.specs.declared.acts.Act.TheVariants.{Drive}
use Rattle.strm_machine.specs.declared.replies.Reply.TheVariants as replies
use Rattle.strm_transmit.specs.Meets.{as_reply}
use Rattle.strm_host_store.proofs.CallLemmas.{drive_among, drives}
use Rattle.strm_host_store.proofs.host_store.HostStore.drive.Goals as goal

pub invariant_of-self : goal.invariant_of-self
invariant_of-self c =
    drive_among c.args.self.now c.self.inside.store c.drive_once-answer.new.self
    c.self.inside.ends.writers.items c.drive_once-answer.new.hosts.writers.items c.forget_all.new.self.writers.items
    c.self.inside.ends.readers.items c.drive_once-answer.new.hosts.readers.items c.forget_all.new.self.readers.items
    (as_reply {T = Unit {0}} (λ x. replies.Done) c.drive_once-answer.result) Drive
    c.drive_once-answer.ensures.meets c.forget_all.ensures.writers c.forget_all.ensures.readers

pub returns : goal.returns
returns c = record {
  polls = drives c.args.self.now c.self.inside.store c.drive_once-answer.new.self
      c.self.inside.ends.writers.items c.drive_once-answer.new.hosts.writers.items c.forget_all.new.self.writers.items
      c.self.inside.ends.readers.items c.drive_once-answer.new.hosts.readers.items c.forget_all.new.self.readers.items
      (as_reply {T = Unit {0}} (λ x. replies.Done) c.drive_once-answer.result) Drive
      c.self.view_is c.drive_once-answer.ensures.meets c.forget_all.ensures.writers c.forget_all.ensures.readers;
}
