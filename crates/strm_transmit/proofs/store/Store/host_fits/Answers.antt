use Rattle.std.proofs.Common.{rules}
use Rattle.strm_machine.specs.declared.acts.HostAct.TheVariants.{New}
use Rattle.strm_transmit.proofs.HostingLemmas.{host_refusal-is}
use Rattle.strm_transmit.proofs.store.Store.host_fits.Goals as goal

pub returns-then-is_unknown_host : goal.returns-then-is_unknown_host
returns-then-is_unknown_host g c = λ logs. rw (host_refusal-is c.args.self.now _ c.args.writer New logs) (search rules)

pub returns-then-ne : goal.returns-then-ne
returns-then-ne g c = λ logs. rw (host_refusal-is c.args.self.now _ c.args.writer New logs) (search rules)

pub returns-then-are_streams_full : goal.returns-then-are_streams_full
returns-then-are_streams_full g c = λ logs. rw (host_refusal-is c.args.self.now _ c.args.writer New logs) (search rules)

pub returns : goal.returns
returns g c = λ logs. rw (host_refusal-is c.args.self.now _ c.args.writer New logs) (search rules)
