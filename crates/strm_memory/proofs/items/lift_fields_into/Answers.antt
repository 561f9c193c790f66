use Rattle.std.proofs.Common.{arith, ◌+◌, ◌∙◌, ◌∷◌, [], length-append, refl, sym, drop, to_z, of_z}
use Rattle.std.proofs.lemmas.Int.{to_z-of_z, ints}
use Rattle.std.specs.Int.{w128}
use mir.Val.{SFits}
use Rattle.strm_codes.specs.Scalars.{size_of}
use Rattle.strm_memory.specs.FieldItems.{scalar_at}
use Rattle.strm_memory.proofs.FieldLemmas.{IsField, end_step, decode_step, decode_stop, decode_end}
use Rattle.strm_memory.proofs.FlatLemmas.{decode-flat}
use Rattle.strm_memory.proofs.items.lift_fields_into.Goals as goal

pub returns-in-None : goal.returns-in-None
returns-in-None c =
    let s = scalar_at c.args.fields.now c.loop-k.k in
    let field : IsField c.args.fields.now c.loop-k.k c.loop-k.at c.field_start-start.result (size_of s) s = record { inside = omega arith; scalar = refl; begins = c.field_start-start.ensures.exact; takes = refl } in
    sym (decode_stop c.args.fields.now c.loop-k.k c.loop-k.at c.field_start-start.result (size_of s) s c.args.bytes.now c.args.from c.loop-k.item field c.in-None.ensures.exact)
    ∙ c.loop-k.invariant.rest
    ∙ sym (decode-flat c.args.fields.now (drop c.args.from c.args.bytes.now))

pub loop-k-preserved : goal.loop-k-preserved
loop-k-preserved c =
    let s = scalar_at c.args.fields.now c.loop-k.k in
    let field : IsField c.args.fields.now c.loop-k.k c.loop-k.at c.field_start-start.result c.size.result s = record { inside = omega arith; scalar = refl; begins = c.field_start-start.ensures.exact; takes = c.size.ensures.exact } in
    let x = c.in-Some.number in
    let wide : SFits w128 x = record { sfits = omega (arith, ints, c.in-Some.ensures.range) } in
    record {
      ends = end_step c.args.fields.now c.loop-k.k c.loop-k.at c.field_start-start.result c.size.result s field ∙ c.loop-k.invariant.ends;
      whole = rw c.push.ensures (omega (arith, length-append c.loop-k.item (to_z w128 (of_z w128 x) ∷ []), c.loop-k.invariant.whole));
      rest = rw (c.push.ensures, to_z-of_z w128 x wide)
          (decode_step c.args.fields.now c.loop-k.k c.loop-k.at c.field_start-start.result c.size.result s c.args.bytes.now c.args.from c.loop-k.item x field c.in-Some.ensures.exact
          ∙ c.loop-k.invariant.rest);
    }

pub returns : goal.returns
returns c =
    sym (decode_end c.args.fields.now c.loop-k.k c.loop-k.at (drop (c.args.from + c.loop-k.at) c.args.bytes.now) c.loop-k.item (omega arith))
    ∙ c.loop-k.invariant.rest
    ∙ sym (decode-flat c.args.fields.now (drop c.args.from c.args.bytes.now))
