use Rattle.std.proofs.Common.{◌≡◌, [], sym, subst, ◌∙◌, rules}
use Rattle.std.specs.Prelude.{IfOk}
use Rattle.strm_tape.specs.Spelling.{TapeOf}
use Rattle.strm_uses.proofs.TapeFacts.{tape_is}
use Rattle.strm_uses.proofs.tape.kept.Goals as goal

pub returns-clause-again : goal.returns-clause-again
returns-clause-again c =
    let writers : c.new-tape.result.writers ≡ [] = search rules in
    let readers : c.new-tape.result.readers ≡ [] = search rules in
    let is = tape_is c.new-tape.result c.args.steps.items c.new-tape.ensures.steps writers readers in
    let same = c.as_slice.ensures ∙ c.in-Ok.ensures in
    subst (λ (t : TapeOf). IfOk c.untape.result (λ found. found ≡ t)) is (c.untape.ensures.again c.new-tape.result c.sound.ensures (sym same))
