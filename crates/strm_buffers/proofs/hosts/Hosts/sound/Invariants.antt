use Rattle.std.proofs.Common.{take}
use Rattle.std.specs.Prelude.{All}
use Rattle.strm_buffers.specs.AllTells.{tells_of}
use Rattle.strm_buffers.specs.Tells.{HoldsItems}
use Rattle.strm_buffers.proofs.hosts.Hosts.sound.Given as goal

abbrev pub invariant-loop-n : goal.invariant-loop-n
invariant-loop-n g l =
    All HoldsItems (take l.n (tells_of (λ b. (goal.HostWriter-dyn g b).writer_tells b.1) (λ b. (goal.HostReader-dyn g b).reader_tells b.1) l.self).writers)
