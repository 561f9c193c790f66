use Rattle.std.proofs.Common.{arith, subst, ap}
use Rattle.strm_memory.specs.Bytes.{IsBytes}
use Rattle.strm_buffers.specs.Windows.{Lent}
use Rattle.strm_buffers.proofs.MarkLemmas.{marked_on}
use Rattle.strm_buffers.proofs.WindowLemmas.{lying_nowhere, lies_there}
use Rattle.strm_buffers.proofs.windows.Window.mark.Goals as goal

pub invariant_of-self : goal.invariant_of-self
invariant_of-self c = ((marked_on c.self.inside.payload c.self.inside.memory.bytes _ _ _ _ _ _ _ (lying_nowhere c.args.self.now) c.self.invariant.0 (ap lying_nowhere c.self.view_is) c.requires.bytes (subst IsBytes c.bytes.ensures c.are_bytes.ensures) (omega (arith, c.requires.there))).is_window, c.self.invariant.1)

pub returns : goal.returns
returns c = lies_there _ _ _ ((marked_on c.self.inside.payload c.self.inside.memory.bytes _ _ _ _ _ _ _ (lying_nowhere c.args.self.now) c.self.invariant.0 (ap lying_nowhere c.self.view_is) c.requires.bytes (subst IsBytes c.bytes.ensures c.are_bytes.ensures) (omega (arith, c.requires.there))).is) (ap (λ (w : Lent). w.base) c.self.view_is)
