use Rattle.std.proofs.Common.{rules}
use Rattle.strm_machine.specs.declared.acts.HostAct.TheVariants.{Pipe}
use Rattle.strm_transmit.proofs.HostingLemmas.{host_refusal-is}
use Rattle.strm_transmit.proofs.store.Store.pipe_fits.Goals as goal

pub returns-then-is_unknown_host : goal.returns-then-is_unknown_host
returns-then-is_unknown_host g c = λ logs. rw (host_refusal-is c.args.self.now _ c.args.host (Pipe c.args.stream) logs) (search rules)

pub returns-then-ne : goal.returns-then-ne
returns-then-ne g c = λ logs. rw (host_refusal-is c.args.self.now _ c.args.host (Pipe c.args.stream) logs) (search rules)

pub returns-in-Some : goal.returns-in-Some
returns-in-Some g c = λ logs. rw (host_refusal-is c.args.self.now _ c.args.host (Pipe c.args.stream) logs) (search rules)

pub returns-in-None : goal.returns-in-None
returns-in-None g c = λ logs. rw (host_refusal-is c.args.self.now _ c.args.host (Pipe c.args.stream) logs) (search rules)
