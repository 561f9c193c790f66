use Rattle.std.proofs.Common.{arith}
use Rattle.std.specs.String.{string_bytes}
use Rattle.strm_error_contexts.proofs.HeldLemmas.{held-pushed, there-pushed}
use Rattle.strm_error_contexts.proofs.contexts.ErrorContexts.insert.Goals as goal

pub invariant_of-self-2 : goal.invariant_of-self-2
invariant_of-self-2 c =
    let s = c.self.inside in
    rw c.in-Ok-push.ensures.ok (held-pushed s.table.entries s.len c.self.invariant (string_bytes c.in-Ok.message) c.new-context.result c.new-context.ensures (omega (arith, c.in-Ok-push.ensures.number, c.rep.ensures)))

pub returns-clause-there : goal.returns-clause-there
returns-clause-there c =
    let s = c.self.inside in
    rw (c.rep.ensures, c.in-Ok-push.ensures.number, c.in-Ok-push.ensures.ok) (there-pushed s.table.entries s.len c.self.invariant (string_bytes c.in-Ok.message) c.new-context.result c.new-context.ensures)
