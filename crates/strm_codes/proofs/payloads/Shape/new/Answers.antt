use Rattle.std.proofs.Common.{◌≡◌, ◌++◌, length, take, drop, replicate, refl, arith}
use Rattle.std.proofs.Math.Seq.{take-append_seam}
use Rattle.strm_codes.specs.Forms.{form_of, fields_of}
use Rattle.strm_codes.specs.declared.scalars.Scalar.TheVariants.{Bool as Flag}
use Rattle.strm_codes.proofs.PaddedLemmas.{padded_new}
use Rattle.strm_codes.proofs.FormLemmas.{IsRead-form_of}
use Rattle.strm_codes.proofs.payloads.Shape.new.Goals as goal

pub invariant_of-result : goal.invariant_of-result
invariant_of-result c =
    let fields = c.args.fields.now in
    let rest = drop (length fields) (replicate 8 Flag) in
    let len : fields_of (form_of fields) ≡ length fields = (IsRead-form_of fields (omega arith) (omega arith)).fields in
    let front : take (length fields) (fields ++ rest) ≡ fields = take-append_seam fields rest in
    rw (c.copy_from_slice.ensures.after, c.form.ensures, len, front)
    (padded_new 8 Flag fields (omega arith), refl)
