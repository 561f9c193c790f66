use Rattle.std.proofs.Common.{◌≡◌, ◌<◌, [], length, sym, ◌∙◌, arith}
use Rattle.std.proofs.lemmas.Bool.{eqb-false}
use Rattle.std.proofs.lemmas.List.{get_or_read}
use Rattle.strm_levels.specs.Marks.{level_at}
use Rattle.strm_levels.proofs.LevelLemmas.{all-counted}
use Rattle.strm_levels.proofs.levels.Levels.lower.Goals as goal

pub invariant_of-self-else-lower : goal.invariant_of-self-else-lower
invariant_of-self-else-lower c =
    let levels = c.self.inside.levels.items in
    let apart = eqb-false c.self.inside.levels.len 0 (sym c.is_empty.ensures ∙ c.if-is_empty.false) in
    let some : 0 < length levels = omega (arith, apart, c.self.inside.levels.ok) in
    let low : c.index_mut.result.now ≡ level_at levels 0 = get_or_read levels 0 c.index_mut.result.now some c.index_mut.ensures.value [] in
    all-counted levels c.args.number _ c.index_mut.result.now c.lower.new.self c.self.invariant some low c.lower.ensures.lowered (c.lower.ensures.same c.if-lower.false)
