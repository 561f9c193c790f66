use Rattle.std.proofs.Common.{arith, ◌+◌, ◌∙◌, ◌<◌, length, get_or, pos, refl, sym, ap, take, ◌++◌, drop}
use Rattle.std.specs.Int.{w128}
use Rattle.std.proofs.lemmas.Int.{to_z-of_z}
use Rattle.strm_memory.specs.FieldItems.{scalar_at}
use Rattle.strm_memory.proofs.FieldLemmas.{IsField, end_step, encode_step, encode_end, fits_step, length-FitsFields, SFits-fits}
use Rattle.strm_memory.proofs.FlatLemmas.{encode-flat}
use Rattle.strm_memory.proofs.items.lower_fields.Goals as goal

pub loop-k-preserved : goal.loop-k-preserved
loop-k-preserved c =
    let s = scalar_at c.args.fields.now c.loop-k.k in
    let field : IsField c.args.fields.now c.loop-k.k c.loop-k.at c.field_start-start.result c.size.result s = record { inside = omega arith; scalar = refl; begins = c.field_start-start.ensures.exact; takes = c.size.ensures.exact } in
    let xs = c.as_slice-numbers.result.now in
    let known = length-FitsFields c.args.fields.now c.args.value.now c.requires.fits in
    let l : c.loop-k.k < length xs = rw c.as_slice-numbers.ensures.exact (omega (arith, known)) in
    let x = get_or xs c.loop-k.k (pos 0) in
    let wide = SFits-fits s x (fits_step c.args.fields.now c.loop-k.k xs (omega arith) l c.loop-k.invariant.fits).0 in
    record {
      ends = end_step c.args.fields.now c.loop-k.k c.loop-k.at c.field_start-start.result c.size.result s field ∙ c.loop-k.invariant.ends;
      fits = (fits_step c.args.fields.now c.loop-k.k xs (omega arith) l c.loop-k.invariant.fits).1;
      rest = rw (rw (to_z-of_z w128 x wide) at c.lower_field.ensures)
          (encode_step c.args.fields.now c.loop-k.k c.loop-k.at c.field_start-start.result c.size.result s c.loop-k.bytes c.args.to xs x field (record { inside = l; is = refl }) (omega arith)
          ∙ c.loop-k.invariant.rest);
    }

pub returns : goal.returns
returns c =
    sym (encode_end c.args.fields.now c.loop-k.k c.loop-k.at (c.args.to + c.loop-k.at) c.loop-k.bytes (drop c.loop-k.k c.as_slice-numbers.result.now) (omega arith))
    ∙ c.loop-k.invariant.rest
    ∙ ap (λ b. take c.args.to c.args.bytes.now ++ b) (sym (encode-flat c.args.fields.now (drop c.args.to c.args.bytes.now) c.args.value.now))
