use Rattle.std.proofs.Common.{arith, ◌∙◌}
use Rattle.strm_memory.proofs.LimitLemmas.{vector_more}
use Rattle.strm_memory.proofs.limits.blend_vectors.Goals as goal

pub loop-done-preserved : goal.loop-done-preserved
loop-done-preserved g c = record {
  inside = omega arith;
  rest = rw c.blend_lanes.ensures
      (vector_more c.args.limits.now c.args.source.now c.loop-done.destination c.args.len c.args.from c.args.to c.loop-done.done g.row.N (omega arith) c.requires.limits_hold c.requires.source_holds (omega arith)
      ∙ c.loop-done.invariant.rest);
}
