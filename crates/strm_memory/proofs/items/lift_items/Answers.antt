use Rattle.strm_memory.proofs.items.lift_items.Goals as goal

pub returns-clause-bad_item : goal.returns-clause-bad_item
returns-clause-bad_item c = λ index e. rw c.as_u32.ensures.exact at (c.lift_from.ensures.bad_item index e)
