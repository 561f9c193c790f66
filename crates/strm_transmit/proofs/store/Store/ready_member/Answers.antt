use Rattle.strm_transmit.proofs.SetLemmas.{found_among, among_ready}
use Rattle.strm_transmit.proofs.store.Store.ready_member.Goals as goal

pub returns-in-Some-clause-exact : goal.returns-in-Some-clause-exact
returns-in-Some-clause-exact c =
    found_among c.in-Some.members.now c.args.self.now c.args.guest c.args.number c.least.result c.in-Some.ensures c.least.ensures.ready c.least.ensures.least c.least.ensures.none

pub returns-in-Some-clause-ready : goal.returns-in-Some-clause-ready
returns-in-Some-clause-ready c =
    among_ready c.in-Some.members.now c.args.self.now c.args.guest c.args.number c.least.result c.in-Some.ensures c.least.ensures.ready
