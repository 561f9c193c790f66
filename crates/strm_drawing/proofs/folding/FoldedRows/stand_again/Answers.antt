use Rattle.std.proofs.Common.{rules, refl, ◌≡◌, length, drop}
use Rattle.strm_drawing.specs.Folding.{spread_all}
use Rattle.strm_drawing.proofs.FoldLemmas.{stands_again}
use Rattle.strm_drawing.proofs.folding.FoldedRows.stand_again.Goals as goal

pub returns-clause-rows : goal.returns-clause-rows
returns-clause-rows c =
    let self = c.args.self.now in
    let rest : c.in_ok-rest.rest.items ≡ drop (length self.last.rows.items) self.tail.items = search rules in
    stands_again (spread_all self.done.items) self.last.rows.items self.tail.items c.in_ok-rest.rest.items self.last.times _ refl c.requires.again.front rest
