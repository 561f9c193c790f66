use Rattle.std.proofs.Common.{rules, sym, drop, ◌≡◌}
use Rattle.strm_drawing.specs.Folding.{spread_all}
use Rattle.strm_drawing.proofs.FoldLemmas.{gone_on}
use Rattle.strm_drawing.proofs.folding.FoldedRows.go_on.Goals as goal

pub returns-clause-rows : goal.returns-clause-rows
returns-clause-rows c =
    let self = c.args.self.now in
    let rest : c.in_ok-rest.rest.items ≡ drop 1 self.tail.items = search rules in
    gone_on (spread_all self.done.items) self.last.rows.items c.push_item.new.items.items self.tail.items c.in_ok-rest.rest.items c.index.result.now self.last.times
    c.requires.once c.requires.some (sym c.index.ensures) c.in_ok-push_item.ensures.ok rest
