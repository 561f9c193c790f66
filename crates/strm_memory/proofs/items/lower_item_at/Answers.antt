use Rattle.std.proofs.Common.{take, drop, sym, ap, ◌++◌, ◌∙◌, arith}
use Rattle.strm_codes.specs.Layout.{item_type}
use Rattle.strm_codes.specs.ItemTypes.{fields_type}
use Rattle.strm_codes.proofs.FieldTypeLemmas.{fits_by_scalars}
use Rattle.strm_memory.specs.Loads.{encode}
use Rattle.strm_memory.proofs.AlikeLemmas.{payload_alike, payload_ends}
use Rattle.strm_memory.proofs.RegionLemmas.{stored_at-one}
use Rattle.strm_memory.proofs.items.lower_item_at.Goals as goal

pub returns-in-Compound : goal.returns-in-Compound
returns-in-Compound c =
    rw (stored_at-one (item_type c.args.payload) c.args.bytes.now c.args.to c.args.item.now, c.in-Compound.is) (rw c.as_slice.ensures.exact at c.lower_compound.ensures)

pub lower_fields-requires : goal.lower_fields-requires
lower_fields-requires c = record {
  fits = rw c.scalars.ensures.exact ((fits_by_scalars c.args.payload c.args.item.now c.in_default.not-Compound).1 c.requires.fits);
  holds = rw c.scalars.ensures.exact (omega (arith, payload_ends c.args.payload c.in_default.not-Compound, c.requires.holds));
}

pub returns-in_default : goal.returns-in_default
returns-in_default c =
    let like = payload_alike c.args.payload c.in_default.not-Compound in
    let bytes = drop c.args.to c.args.bytes.now in
    c.lower_fields.ensures
    ∙ ap (λ ss. take c.args.to c.args.bytes.now ++ encode (fields_type ss) bytes c.args.item.now) c.scalars.ensures.exact
    ∙ ap (λ b. take c.args.to c.args.bytes.now ++ b) (sym (like.encoded bytes c.args.item.now))
    ∙ sym (stored_at-one (item_type c.args.payload) c.args.bytes.now c.args.to c.args.item.now)
