use Rattle.std.proofs.Common.{drop, length, sym, ◌∙◌, ap}
use Rattle.std.specs.List.{list_any}
use Rattle.strm_codes.specs.ItemTypes.{fields_type}
use Rattle.strm_codes.specs.Layout.{item_type, scalars_of}
use Rattle.strm_codes.specs.Sameness.{same_scalar}
use Rattle.strm_codes.specs.declared.scalars.Scalar.TheVariants.{Char}
use Rattle.strm_memory.specs.Items.{good_items}
use Rattle.strm_memory.proofs.AlikeLemmas.{payload_alike, good_items-alike}
use Rattle.strm_memory.proofs.GoodLemmas.{good_no_char}
use Rattle.strm_memory.proofs.good_items.count_good_items.Goals as goal

pub returns-then-not-contains : goal.returns-then-not-contains
returns-then-not-contains c =
    let p = c.args.payload.now in
    let bytes = drop c.args.from c.args.bytes.now in
    good_no_char (scalars_of p) bytes c.args.count
    (sym (ap (list_any (λ s. same_scalar s Char)) c.scalars-fields.ensures.exact) ∙ sym c.if-not-contains.ensures.value)
    ∙ ap length (sym (good_items-alike (item_type p) (fields_type (scalars_of p)) bytes c.args.count (payload_alike p c.in_default.not-Compound)))

pub returns : goal.returns
returns c =
    let p = c.args.payload.now in
    let bytes = drop c.args.from c.args.bytes.now in
    c.count_tested.ensures
    ∙ ap (λ ss. length (good_items (fields_type ss) bytes c.args.count)) c.scalars-fields.ensures.exact
    ∙ ap length (sym (good_items-alike (item_type p) (fields_type (scalars_of p)) bytes c.args.count (payload_alike p c.in_default.not-Compound)))
