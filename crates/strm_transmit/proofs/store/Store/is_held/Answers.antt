use Rattle.strm_transmit.proofs.RoundStoreLemmas.{writer_fits, entry_there, held_then}
use Rattle.strm_transmit.proofs.store.Store.is_held.Goals as goal

pub index-requires : goal.index-requires
index-requires g c = entry_there c.self.inside c.args.self.now _ c.args.stream c.args.writer c.args.reader c.self.view_is c.self.invariant c.requires.pipe

pub writer_held-requires : goal.writer_held-requires
writer_held-requires g c = (writer_fits c.self.inside c.args.self.now _ c.args.stream c.args.writer c.args.reader c.self.view_is c.self.invariant c.requires.pipe).there

pub returns-then-len-gt0 : goal.returns-then-len-gt0
returns-then-len-gt0 g c = held_then c.self.inside c.args.self.now _ c.args.stream c.args.writer c.args.reader c.self.view_is c.self.invariant c.requires.pipe c.index.result.now c.index.ensures c.len.result _ c.len.ensures.exact c.if-len-gt0.true
