use Rattle.std.proofs.Common.{arith, rules, sym, ◌∙◌}
use Rattle.strm_codes.proofs.FieldTypeLemmas.{item_size-fields}
use Rattle.strm_codes.proofs.LayoutLemmas.{fields_size-most}
use Rattle.strm_memory.proofs.CopyLemmas.{stored_at_from_copied}
use Rattle.strm_memory.proofs.copies.copy_fields.Goals as goal

pub copy_good_items-requires-clause-size : goal.copy_good_items-requires-clause-size
copy_good_items-requires-clause-size c = c.requires.size ∙ item_size-fields c.args.fields.now

pub copy_good_items-requires-clause-most : goal.copy_good_items-requires-clause-most
copy_good_items-requires-clause-most c =
    omega (arith, c.requires.size ∙ item_size-fields c.args.fields.now, fields_size-most c.args.fields.now c.requires.few)

pub returns : goal.returns
returns c = record {
  ok = stored_at_from_copied c.args.fields.now c.args.count c.args.source.now c.args.destination.now _ c.args.from c.args.to (λ k. omega (arith, c.type_inv.source k)) (rw (← item_size-fields c.args.fields.now, ← c.requires.size) c.requires.source_holds) (sym c.if-not-are_good_items.ensures) c.copy_good_items.ensures;
  bad = search rules;
  err = search rules;
}
