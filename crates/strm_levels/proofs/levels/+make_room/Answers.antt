use Rattle.std.proofs.Common.{◌≡◌, ◌+◌, ◌<◌, [], length, arith}
use Rattle.std.proofs.lemmas.List.{get_or_read}
use Rattle.strm_levels.specs.Marks.{level_at}
use Rattle.strm_levels.proofs.LevelLemmas.{all-pushed_or_not}
use Rattle.strm_levels.proofs.levels.+make_room.Goals as goal

pub returns-clause-over : goal.returns-clause-over
returns-clause-over t c =
    let levels = c.make_room.new.levels.items in
    let k = c.args.level + 1 in
    let there : k < length levels = omega (arith, c.make_room.ensures.more) in
    let low : c.index_mut.result.now ≡ level_at levels k = get_or_read levels k c.index_mut.result.now there c.index_mut.ensures.value [] in
    all-pushed_or_not c.push.result levels k c.index_mut.result.now c.push.new.self c.make_room.ensures.over there c.in_ok-make_room.ensures.room low c.push.ensures.ok c.push.ensures.err
