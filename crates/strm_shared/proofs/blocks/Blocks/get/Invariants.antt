use Rattle.std.proofs.Common.{◌≡◌, ◌++◌, slice_get, drop, flat_map}
use Rattle.strm_shared.proofs.blocks.Blocks.get.Given as goal

abbrev pub invariant-loop-block : goal.invariant-loop-block
invariant-loop-block g l =
    slice_get l.self.items l.index
    ≡ slice_get (flat_map (λ v. v.items) (drop l.block-index l.block-items) ++ l.self-inside.last.items) l.left
