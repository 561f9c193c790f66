-- What those up to the number hold fits.
use Rattle.std.proofs.Common.{take, map}
use Rattle.std.specs.Prelude.{All}
use Rattle.strm_buffers.specs.Tells.{HoldsItems}
use Rattle.strm_ready_ends.specs.SendQueues.{ready_tells}
use Rattle.strm_host_store.proofs.ready_ends.ReadyEndsHostEnds.sound.Given as goal

abbrev pub invariant-loop-number : goal.invariant-loop-number
invariant-loop-number l = All HoldsItems (take l.number (map ready_tells l.self.writers.items))
