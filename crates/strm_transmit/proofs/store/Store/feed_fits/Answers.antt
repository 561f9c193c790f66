use Rattle.std.proofs.Common.{rules}
use Rattle.strm_machine.specs.declared.acts.HostAct.TheVariants.{Feed}
use Rattle.strm_transmit.proofs.HostingLemmas.{host_refusal-is}
use Rattle.strm_transmit.proofs.store.Store.feed_fits.Goals as goal

pub returns-then-is_unknown_host : goal.returns-then-is_unknown_host
returns-then-is_unknown_host g c = λ logs. rw (host_refusal-is c.args.self.now _ c.args.host (Feed c.args.bytes.now) logs) (search rules)

pub returns : goal.returns
returns g c = λ logs. rw (host_refusal-is c.args.self.now _ c.args.host (Feed c.args.bytes.now) logs) (search rules)
