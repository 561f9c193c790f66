use Rattle.std.proofs.Common.{arith, drop, length-drop, length-take-le}
use Rattle.strm_memory.specs.Bytes.{bytes_at}
use Rattle.strm_memory.proofs.LimitLemmas.{lanes_blended}
use Rattle.strm_memory.proofs.limits.blend_lanes.Goals as goal

pub returns : goal.returns
returns g c =
    let limits = bytes_at c.args.limits.now c.args.at g.row.N in
    let wide = length-take-le g.row.N (drop c.args.at c.args.limits.now) (omega (arith, length-drop c.args.at c.args.limits.now)) in
    lanes_blended limits c.args.source.now c.args.destination.now c.args.from c.args.to g.row.N wide c.requires.source_holds c.requires.destination_holds
