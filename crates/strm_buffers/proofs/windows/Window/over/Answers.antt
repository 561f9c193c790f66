use Rattle.std.proofs.Common.{refl, arith}
use Rattle.strm_buffers.proofs.MarkLemmas.{over_memory}
use Rattle.strm_buffers.proofs.WindowLemmas.{lies_there}
use Rattle.strm_buffers.proofs.windows.Window.over.Goals as goal

pub invariant_of-result : goal.invariant_of-result
invariant_of-result c = ((over_memory c.args.payload c.args.memory.bytes c.args.memory.bytes c.new.result.items _ c.args.address _ refl c.new.ensures.items (omega (arith, c.requires)) (omega (arith, c.ranges.room.fits))).is_window, λ e. cc)

pub returns : goal.returns
returns c = lies_there _ _ _ ((over_memory c.args.payload c.args.memory.bytes c.args.memory.bytes c.new.result.items 0 c.args.address _ refl c.new.ensures.items (omega (arith, c.requires)) (omega (arith, c.ranges.room.fits))).is) refl
