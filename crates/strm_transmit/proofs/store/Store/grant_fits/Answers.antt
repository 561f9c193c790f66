use Rattle.std.proofs.Common.{rules}
use Rattle.strm_machine.specs.declared.acts.HostAct.TheVariants.{Grant}
use Rattle.strm_transmit.proofs.HostingLemmas.{host_refusal-is}
use Rattle.strm_transmit.proofs.store.Store.grant_fits.Goals as goal

pub returns-then-is_unknown_host : goal.returns-then-is_unknown_host
returns-then-is_unknown_host g c = λ logs. rw (host_refusal-is c.args.self.now _ c.args.host (Grant c.args.count) logs) (search rules)

pub returns : goal.returns
returns g c = λ logs. rw (host_refusal-is c.args.self.now _ c.args.host (Grant c.args.count) logs) (search rules)
