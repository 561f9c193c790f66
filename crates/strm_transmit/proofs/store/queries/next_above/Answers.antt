use Rattle.std.proofs.Common.{◌∙◌, sym, arith}
use Rattle.strm_transmit.proofs.QueryLemmas.{free_further, next_none, next_found}
use Rattle.strm_transmit.proofs.store.queries.next_above.Goals as goal

pub loop-index-init : goal.loop-index-init
loop-index-init c = λ n l u. absurd (omega arith)

pub loop-index-preserved : goal.loop-index-preserved
loop-index-preserved c =
    free_further c.args.table.now.handles c.args.after c.loop-index.index c.loop-index.invariant
    (sym c.is_there.ensures ∙ c.if-is_there.false)

pub returns-then-is_there : goal.returns-then-is_there
returns-then-is_there c =
    sym (next_found c.args.table.now.handles c.args.after c.loop-index.index (omega arith) (omega arith) c.loop-index.invariant
    (sym c.is_there.ensures ∙ c.if-is_there.true))

pub returns : goal.returns
returns c = sym (next_none c.args.table.now.handles c.args.after c.loop-index.index (omega arith) c.loop-index.invariant)
