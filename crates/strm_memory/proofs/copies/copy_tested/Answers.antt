use Rattle.std.proofs.Common.{ap, sym, ◌∙◌}
use Rattle.strm_codes.specs.Layout.{item_type, scalars_of}
use Rattle.strm_codes.specs.ItemTypes.{item_size, fields_type}
use Rattle.strm_memory.proofs.AlikeLemmas.{payload_alike}
use Rattle.strm_memory.proofs.CopyLemmas.{CopiesItems-alike}
use Rattle.strm_memory.proofs.copies.copy_tested.Goals as goal

pub copy_fields-requires-clause-size : goal.copy_fields-requires-clause-size
copy_fields-requires-clause-size c =
    c.size-size.ensures.exact
    ∙ (payload_alike c.args.payload c.in_default.not-Compound).size
    ∙ ap (λ ss. item_size (fields_type ss)) (sym c.scalars.ensures.exact)

pub returns-in_default : goal.returns-in_default
returns-in_default c =
    let p = c.args.payload in
    CopiesItems-alike (item_type p) (fields_type (scalars_of p)) c.args.source.now c.args.from c.args.destination.now _ c.args.to c.args.count _ (payload_alike p c.in_default.not-Compound)
    (rw c.scalars.ensures.exact at c.copy_fields.ensures)
