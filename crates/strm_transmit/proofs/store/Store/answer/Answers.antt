use Rattle.strm_host_machine.proofs.SettleLemmas.{Does-answers}
use Rattle.strm_transmit.proofs.OperateLemmas.{answers-fits}
use Rattle.strm_transmit.proofs.store.Store.answer.Goals as goal

pub returns-in-Some-clause-does : goal.returns-in-Some-clause-does
returns-in-Some-clause-does c = Does-answers c.args.self.now _ c.args.stream c.args.side _ c.in-Some.ensures

pub returns-in-Some-clause-fits : goal.returns-in-Some-clause-fits
returns-in-Some-clause-fits c = answers-fits c.args.side c.args.self.now _ c.args.stream _ c.in-Some.ensures

pub returns-in-None-clause-does : goal.returns-in-None-clause-does
returns-in-None-clause-does c = Does-answers c.args.self.now _ c.args.stream c.args.side _ c.in-None.ensures

pub returns-in-None-clause-fits : goal.returns-in-None-clause-fits
returns-in-None-clause-fits c = answers-fits c.args.side c.args.self.now _ c.args.stream _ c.in-None.ensures
