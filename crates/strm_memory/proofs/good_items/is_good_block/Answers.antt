use Rattle.std.proofs.Common.{◌≤◌, arith, ◌∙◌, refl, sym, drop, true, false}
use Rattle.strm_codes.specs.Scalars.{size_of}
use Rattle.strm_codes.specs.Fields.{end_offset}
use Rattle.strm_codes.proofs.FieldTypeLemmas.{item_size-fields}
use Rattle.strm_memory.specs.FieldItems.{scalar_at}
use Rattle.strm_memory.proofs.AlikeLemmas.{fields_end}
use Rattle.strm_memory.proofs.FieldLemmas.{IsField, end_step}
use Rattle.strm_memory.proofs.ColumnLemmas.{good_columns_step, good_columns_end, good_columns-items}
use Rattle.strm_memory.proofs.good_items.is_good_block.Goals as goal

pub field_start-start-requires-clause-small : goal.field_start-start-requires-clause-small
field_start-start-requires-clause-small c =
    let ends : end_offset 0 c.args.fields.now ≤ c.args.size = rw c.requires.size (fields_end c.args.fields.now) in
    omega (arith, c.loop-k.invariant.ends)

pub is_good_column-requires-clause-inside : goal.is_good_column-requires-clause-inside
is_good_column-requires-clause-inside c =
    let ends : end_offset 0 c.args.fields.now ≤ c.args.size = rw c.requires.size (fields_end c.args.fields.now) in
    omega (arith, c.loop-k.invariant.ends, c.field_start-start.ensures.within)

pub overflow_add-at : goal.overflow_add-at
overflow_add-at c =
    let ends : end_offset 0 c.args.fields.now ≤ c.args.size = rw c.requires.size (fields_end c.args.fields.now) in
    omega (arith, c.loop-k.invariant.ends, c.field_start-start.ensures.within, c.size.ensures.exact)

pub returns-then-not-is_good_column : goal.returns-then-not-is_good_column
returns-then-not-is_good_column c =
    let s = scalar_at c.args.fields.now c.loop-k.k in
    let field : IsField c.args.fields.now c.loop-k.k c.loop-k.at c.field_start-start.result (size_of s) s = record { inside = omega arith; scalar = refl; begins = c.field_start-start.ensures.exact; takes = refl } in
    sym (good_columns_step c.args.fields.now c.loop-k.k c.loop-k.at c.field_start-start.result (size_of s) s c.args.size (drop c.args.from c.args.source.now) c.args.count false field c.if-not-is_good_column.ensures)
    ∙ c.loop-k.invariant.rest
    ∙ rw (c.requires.size, item_size-fields c.args.fields.now) (good_columns-items c.args.fields.now (drop c.args.from c.args.source.now) c.args.count)

pub loop-k-preserved : goal.loop-k-preserved
loop-k-preserved c =
    let s = scalar_at c.args.fields.now c.loop-k.k in
    let field : IsField c.args.fields.now c.loop-k.k c.loop-k.at c.field_start-start.result c.size.result s = record { inside = omega arith; scalar = refl; begins = c.field_start-start.ensures.exact; takes = c.size.ensures.exact } in
    record {
      ends = end_step c.args.fields.now c.loop-k.k c.loop-k.at c.field_start-start.result c.size.result s field ∙ c.loop-k.invariant.ends;
      rest = sym (good_columns_step c.args.fields.now c.loop-k.k c.loop-k.at c.field_start-start.result c.size.result s c.args.size (drop c.args.from c.args.source.now) c.args.count true field c.if-not-is_good_column.ensures)
          ∙ c.loop-k.invariant.rest;
    }

pub returns : goal.returns
returns c =
    sym (good_columns_end c.args.fields.now c.loop-k.k c.loop-k.at c.args.size (drop c.args.from c.args.source.now) c.args.count (omega arith))
    ∙ c.loop-k.invariant.rest
    ∙ rw (c.requires.size, item_size-fields c.args.fields.now) (good_columns-items c.args.fields.now (drop c.args.from c.args.source.now) c.args.count)
