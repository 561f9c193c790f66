use Rattle.std.proofs.Common.{rules}
use Rattle.strm_machine.specs.declared.streams.Side.TheVariants.{Writing, Reading}
use Rattle.strm_transmit.proofs.RoundLemmas.{rounds, kept-fits, end-none, end-does, end-fits}
use Rattle.strm_transmit.proofs.RoundStoreLemmas.{hosts_held}
use Rattle.strm_transmit.proofs.store.Store.end_if_done.Goals as goal

pub give_up-requires : goal.give_up-requires
give_up-requires g c = c.served.ensures.serves Writing c.args.writer c.args.stream c.requires.pipe.writer

pub end_pipe-requires-clause-serves : goal.end_pipe-requires-clause-serves
end_pipe-requires-clause-serves g c = rw c.give_up.ensures (c.served.ensures.serves Reading c.args.reader c.args.stream c.requires.pipe.reader)

pub end_pipe-requires-clause-fits : goal.end_pipe-requires-clause-fits
end_pipe-requires-clause-fits g c = kept-fits c.args.self.now _ c.args.stream c.args.writer c.args.reader (rounds c.args.self.now _ c.args.stream c.args.writer c.args.reader c.served.ensures c.requires.pipe) _ _ c.give_up.ensures

pub returns-then-is_end_due-clause-does : goal.returns-then-is_end_due-clause-does
returns-then-is_end_due-clause-does g c = end-does c.args.self.now _ c.args.stream c.args.writer c.args.reader (rounds c.args.self.now _ c.args.stream c.args.writer c.args.reader c.served.ensures c.requires.pipe) _ _ _ c.give_up.ensures c.end_pipe.ensures c.args.answer (search rules)

pub returns-then-is_end_due-clause-fits : goal.returns-then-is_end_due-clause-fits
returns-then-is_end_due-clause-fits g c = end-fits c.args.self.now _ c.args.stream c.args.writer c.args.reader (rounds c.args.self.now _ c.args.stream c.args.writer c.args.reader c.served.ensures c.requires.pipe) _ _ _ c.give_up.ensures c.end_pipe.ensures

pub returns-else-is_end_due-clause-does : goal.returns-else-is_end_due-clause-does
returns-else-is_end_due-clause-does g c = end-none c.args.self.now _ c.args.stream c.args.writer c.args.reader (rounds c.args.self.now _ c.args.stream c.args.writer c.args.reader c.served.ensures c.requires.pipe) c.args.answer (search rules)

pub end_pipe-requires-clause-unheld : goal.end_pipe-requires-clause-unheld
end_pipe-requires-clause-unheld g c = rw c.give_up.ensures (hosts_held _ c.args.writer c.args.reader c.requires.pipe.writer c.requires.pipe.reader)
