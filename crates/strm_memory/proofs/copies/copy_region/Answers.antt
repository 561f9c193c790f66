use Rattle.std.proofs.Common.{rules, [], ◌*◌, drop, sym, ap, arith}
use Rattle.strm_codes.specs.declared.payloads.Payload.TheVariants.{One}
use Rattle.strm_memory.proofs.CopyLemmas.{items-no_char, moved_items, some_numbers, nothing_copied_at, never_none}
use Rattle.strm_memory.proofs.copies.copy_region.Goals as goal

pub returns-in-Nothing-clause-ok : goal.returns-in-Nothing-clause-ok
returns-in-Nothing-clause-ok c =
    rw c.in-Nothing.is (nothing_copied_at c.args.count c.args.source.now c.args.destination.now c.args.from c.args.to (λ k. omega (arith, c.type_inv.source k)) (rw c.in-Nothing.is at c.requires.source_holds))

pub returns-in-Nothing-clause-bad : goal.returns-in-Nothing-clause-bad
returns-in-Nothing-clause-bad c = rw c.in-Nothing.is (never_none _ (items-no_char [] c.args.count (drop c.args.from c.args.source.now) tt))

pub returns-in-One-clause-ok : goal.returns-in-One-clause-ok
returns-in-One-clause-ok c =
    rw c.in-One.is (moved_items (One c.in-One.scalar) c.args.count c.args.source.now c.args.destination.now _ c.args.from c.args.to _ (sym c.if-is_numeric.ensures) (λ k. omega (arith, c.type_inv.source k)) (rw c.in-One.is at c.requires.source_holds) (ap (λ n. n * c.args.count) c.size.ensures.exact) c.copy_bytes.ensures)

pub returns-in-One-clause-bad : goal.returns-in-One-clause-bad
returns-in-One-clause-bad c =
    rw c.in-One.is (never_none _ (some_numbers c.in-One.scalar c.args.count (drop c.args.from c.args.source.now) (sym c.if-is_numeric.ensures)))

pub returns-in-One-clause-numbers : goal.returns-in-One-clause-numbers
returns-in-One-clause-numbers c = search rules
