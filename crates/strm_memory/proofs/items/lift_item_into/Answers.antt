use Rattle.std.proofs.Common.{drop, sym, ap, ◌∙◌, arith}
use Rattle.strm_codes.specs.ItemTypes.{fields_type}
use Rattle.strm_memory.specs.Loads.{decode}
use Rattle.strm_memory.proofs.AlikeLemmas.{payload_alike, payload_ends}
use Rattle.strm_memory.proofs.items.lift_item_into.Goals as goal

pub lift_fields_into-requires : goal.lift_fields_into-requires
lift_fields_into-requires c = record {
  few = c.scalars.ensures.most;
  holds = rw c.scalars.ensures.exact (omega (arith, payload_ends c.args.payload.now c.in_default.not-Compound, c.requires.holds));
  empty = c.requires.empty;
}

pub returns-in_default : goal.returns-in_default
returns-in_default c =
    let like = payload_alike c.args.payload.now c.in_default.not-Compound in
    let bytes = drop c.args.from c.args.bytes.now in
    c.lift_fields_into.ensures
    ∙ ap (λ ss. decode (fields_type ss) bytes) c.scalars.ensures.exact
    ∙ sym (like.decoded bytes)
