use Rattle.std.proofs.Common.{refl, sym, ap, ◌∙◌}
use Rattle.std.specs.Option.{is_some}
use Rattle.strm_tape.proofs.WrittenLemmas.{plain_at}
use Rattle.strm_tape.proofs.records.are_items.Goals as goal

pub returns-then-is_number : goal.returns-then-is_number
returns-then-is_number c =
    ap is_some (sym (plain_at c.args.payload c.args.bytes.now c.args.bytes.now c.args.count refl (sym c.is_number.ensures ∙ c.if-is_number.true) c.are_bytes.ensures c.requires.all c.requires.few).exact)
