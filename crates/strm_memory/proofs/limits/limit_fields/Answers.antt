use Rattle.std.proofs.Common.{◌+◌, ◌≤◌, ◌∙◌, arith, refl}
use Rattle.strm_memory.specs.FieldItems.{scalar_at}
use Rattle.strm_memory.proofs.FieldLemmas.{IsField, end_step, field_within}
use Rattle.strm_memory.proofs.LimitLemmas.{limits_step, limits_step_behind, limits_end, length-limit_put}
use Rattle.strm_memory.proofs.limits.limit_fields.Goals as goal

pub loop-k-preserved : goal.loop-k-preserved
loop-k-preserved c =
    let s = scalar_at c.args.fields.now c.loop-k.k in
    let start = c.field_start-start.result in
    let field : IsField c.args.fields.now c.loop-k.k c.loop-k.at start c.size.result s = record { inside = omega arith; scalar = refl; begins = c.field_start-start.ensures.exact; takes = c.size.ensures.exact } in
    let room : start + 8 ≤ 176 = omega (arith, field_within c.args.fields.now c.loop-k.k c.loop-k.at start c.size.result s field) in
    record {
      len = rw c.limit_field.ensures (length-limit_put c.loop-k.limits start s (omega arith) ∙ c.loop-k.invariant.len);
      ends = end_step c.args.fields.now c.loop-k.k c.loop-k.at start c.size.result s field ∙ c.loop-k.invariant.ends;
      done = rw c.limit_field.ensures
          (limits_step c.args.fields.now c.loop-k.k c.loop-k.at start c.size.result s c.loop-k.limits 176 field c.loop-k.invariant.len room c.loop-k.invariant.zeros
          ∙ c.loop-k.invariant.done);
      zeros = rw c.limit_field.ensures
          (limits_step_behind c.args.fields.now c.loop-k.k c.loop-k.at start c.size.result s c.loop-k.limits 176 field c.loop-k.invariant.len room c.loop-k.invariant.zeros);
    }

pub returns : goal.returns
returns c = limits_end c.args.fields.now c.loop-k.k c.loop-k.at c.loop-k.limits 176 (omega arith) c.loop-k.invariant.done c.loop-k.invariant.zeros c.loop-k.invariant.ends
