use Rattle.std.proofs.Common.{sym, ap, length, ◌∙◌}
use Rattle.strm_tape.proofs.WrittenLemmas.{again}
use Rattle.strm_tape.proofs.records.write_again.Goals as goal

pub returns-in-Ok-clause-kept : goal.returns-in-Ok-clause-kept
returns-in-Ok-clause-kept c =
    λ yes. (again c.args.payload c.args.bytes.now c.args.written.now.items c.copy_region.new.destination c.args.written.now.len c.args.count c.are_bytes.ensures c.requires.all c.requires.few c.requires.zeros (sym c.as_mut_slice.ensures.len ∙ ap length c.as_mut_slice.ensures.value) (rw c.as_mut_slice.ensures.value at c.in-Ok.ensures.ok)).kept

pub returns-in-Ok-clause-exact : goal.returns-in-Ok-clause-exact
returns-in-Ok-clause-exact c =
    rw (c.eq.ensures, c.as_slice.ensures.value) (again c.args.payload c.args.bytes.now c.args.written.now.items c.copy_region.new.destination c.args.written.now.len c.args.count c.are_bytes.ensures c.requires.all c.requires.few c.requires.zeros (sym c.as_mut_slice.ensures.len ∙ ap length c.as_mut_slice.ensures.value) (rw c.as_mut_slice.ensures.value at c.in-Ok.ensures.ok)).exact
