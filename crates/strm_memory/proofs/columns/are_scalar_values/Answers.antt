use Rattle.std.proofs.Common.{◌≡◌, ◌+◌, ◌∙◌, arith, drop, sym, ap, ◌&&◌}
use Rattle.strm_codes.specs.declared.scalars.Scalar.TheVariants.{Char}
use Rattle.std.proofs.Math.Bool.{and-true}
use Rattle.strm_memory.specs.Bytes.{le, bytes_at}
use Rattle.strm_memory.proofs.ColumnLemmas.{good_column_more, good_column_none, lifted_char, both_step}
use Rattle.strm_memory.proofs.columns.are_scalar_values.Goals as goal

pub loop-k-preserved : goal.loop-k-preserved
loop-k-preserved c =
    let next : c.args.from + (c.loop-k.done + c.args.column.size) ≡ c.args.from + c.loop-k.done + c.args.column.size = omega arith in
    let good = rw c.load_4.ensures at c.is_scalar_value-good.ensures in
    record {
      place = omega arith;
      rest = rw next
          (both_step c.loop-k.good c.is_scalar_value-good.result _ _ _
          (good_column_more Char c.args.column.start c.args.column.size c.args.source.now (c.args.from + c.loop-k.done) c.loop-k._k c.args.column.count c.is_scalar_value-good.result (omega arith) (good ∙ sym (lifted_char (le (bytes_at c.args.source.now (c.args.from + c.loop-k.done + c.args.column.start) 4)))))
          c.loop-k.invariant.rest);
    }

pub returns : goal.returns
returns c =
    let e : c.loop-k._k ≡ c.args.column.count = omega arith in
    sym (and-true c.loop-k.good)
    ∙ ap (λ b. c.loop-k.good && b) (sym (good_column_none Char c.args.column.start c.args.column.size (drop (c.args.from + c.loop-k.done) c.args.source.now) c.args.column.count))
    ∙ rw e at c.loop-k.invariant.rest
