use Rattle.std.proofs.Common.{ap}
use Rattle.strm_memory.specs.Linear.{LinearMemory}
use Rattle.strm_buffers.proofs.MarkLemmas.{over_nothing}
use Rattle.strm_buffers.proofs.WindowLemmas.{lies_there}
use Rattle.strm_buffers.proofs.windows.Window.unbounded.Goals as goal

pub invariant_of-result : goal.invariant_of-result
invariant_of-result c = ((over_nothing c.args.payload c.empty.result.bytes c.new.result.items _ (ap (λ (m : LinearMemory). m.bytes) c.empty.ensures) c.new.ensures.items).is_window, λ e. ap (λ (m : LinearMemory). m.base) c.empty.ensures)

pub returns : goal.returns
returns c = lies_there _ _ _ ((over_nothing c.args.payload c.empty.result.bytes c.new.result.items 0 (ap (λ (m : LinearMemory). m.bytes) c.empty.ensures) c.new.ensures.items).is) (ap (λ (m : LinearMemory). m.base) c.empty.ensures)
