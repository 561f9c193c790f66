use Rattle.strm_transmit.proofs.PipeStoreLemmas.{ended_stream}
use Rattle.std.proofs.Common.{ap, ◌∙◌}
use Rattle.std.proofs.lemmas.List.{get_or-set_same}
use Rattle.strm_machine.specs.State.{State, no_stream, stream_at, is_held}
use Rattle.strm_machine.specs.declared.streams.Side.TheVariants.{Writing, Reading}
use Rattle.strm_machine.specs.declared.streams.Stream.{Stream}
use Rattle.strm_transmit.proofs.store.Store.end_stream.Goals as goal

pub returns : goal.returns
returns c = ended_stream c.args.self.now _ _ c.args.stream c.requires.there c.lose.ensures c.lose-2.ensures

pub lose-requires-clause-unheld : goal.lose-requires-clause-unheld
lose-requires-clause-unheld c = c.requires.unheld Reading

pub lose-requires-2-clause-unheld : goal.lose-requires-2-clause-unheld
lose-requires-2-clause-unheld c =
    ap (λ (x : State). is_held (stream_at x c.args.stream).writer.owner) c.lose.ensures
    ∙ ap (λ (x : Stream). is_held x.writer.owner) (get_or-set_same c.args.self.now.streams c.args.stream _ no_stream c.requires.there)
    ∙ c.requires.unheld Writing
