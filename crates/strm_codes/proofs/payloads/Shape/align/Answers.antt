use Rattle.std.proofs.Common.{take, ap, ◌∙◌, arith, length-take-le}
use Rattle.strm_codes.specs.Fields.{fields_align}
use Rattle.strm_codes.specs.Forms.{fields_of, align_in}
use Rattle.strm_codes.proofs.FormLemmas.{IsRead-form_of}
use Rattle.strm_codes.proofs.payloads.Shape.align.Goals as goal

pub returns-clause-exact : goal.returns-clause-exact
returns-clause-exact c =
    let inside = c.self.inside in
    let padded = c.self.invariant.0 in
    let len = length-take-le (fields_of inside.form) inside.fields (omega (arith, padded.most, padded.whole)) in
    let read = IsRead-form_of (take (fields_of inside.form) inside.fields) (omega (arith, len)) (omega (arith, len, padded.most)) in
    c.align_in.ensures ∙ ap align_in c.self.invariant.1 ∙ read.align ∙ ap fields_align c.self.view_is
