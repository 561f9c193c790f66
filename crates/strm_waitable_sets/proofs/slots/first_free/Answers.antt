use Rattle.std.proofs.Common.{not, None, is_some, ap, ◌∙◌, arith}
use Rattle.std.proofs.lemmas.List.{get_or_past}
use Rattle.strm_waitable_sets.proofs.TieLemmas.{free_first}
use Rattle.strm_waitable_sets.proofs.slots.first_free.Goals as goal

pub returns-then-is_none-clause-first : goal.returns-then-is_none-clause-first
returns-then-is_none-clause-first c =
    free_first c.args.slots.now c.loop-number.number c.loop-number.invariant.0 c.loop-number.invariant.1
    (c.is_none.ensures ∙ ap not c.if-is_none.true)

pub returns-clause-first : goal.returns-clause-first
returns-clause-first c =
    free_first c.args.slots.now c.loop-number.number c.loop-number.invariant.0 c.loop-number.invariant.1
    (ap is_some (get_or_past c.args.slots.now c.loop-number.number None (omega arith)))
