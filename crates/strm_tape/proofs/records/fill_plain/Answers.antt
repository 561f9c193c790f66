use Rattle.std.proofs.Common.{◌++◌, ap, ◌∙◌}
use Rattle.strm_tape.proofs.WrittenLemmas.{plain_at}
use Rattle.strm_tape.proofs.records.fill_plain.Goals as goal

pub returns-clause-kept : goal.returns-clause-kept
returns-clause-kept c =
    (plain_at c.args.payload c.args.bytes.now c.put.new.out.items c.args.count (c.in_ok-put.ensures ∙ ap (λ l. l ++ c.args.bytes.now) c.requires.empty) c.requires.number c.are_bytes.ensures c.requires.all c.requires.few).kept

pub returns-clause-exact : goal.returns-clause-exact
returns-clause-exact c =
    (plain_at c.args.payload c.args.bytes.now c.put.new.out.items c.args.count (c.in_ok-put.ensures ∙ ap (λ l. l ++ c.args.bytes.now) c.requires.empty) c.requires.number c.are_bytes.ensures c.requires.all c.requires.few).exact
