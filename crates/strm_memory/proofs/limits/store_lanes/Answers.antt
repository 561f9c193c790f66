use Rattle.std.proofs.Common.{arith}
use Rattle.strm_memory.proofs.ByteLemmas.{put_chunk-put_at}
use Rattle.strm_memory.proofs.limits.store_lanes.Goals as goal

pub returns : goal.returns
returns g c = put_chunk-put_at c.args.bytes.now c.args.at c.args.lanes (omega (arith, c.requires.whole, c.requires.holds))
