-- What is marked at a level is told of the one below it.
use Rattle.std.proofs.Common.{◌≡◌, ◌+◌, ◌/◌, ◌<◌, List, ℕ, [], length, ap, ◌∙◌, arith}
use Rattle.std.proofs.lemmas.List.{get_or_read, get_or-set_same, get_or-set_other}
use Rattle.strm_levels.specs.Counts.{has_any}
use Rattle.strm_levels.specs.Marks.{width, level_at}
use Rattle.strm_levels.proofs.LevelLemmas.{but-told, told-all, marks-read}
use Rattle.strm_levels.proofs.levels.tell_above.Goals as goal

pub returns-then-not-mark-clause-over : goal.returns-then-not-mark-clause-over
returns-then-not-mark-clause-over c =
    let levels = c.loop-level.levels.items in
    let k = c.loop-level.level in
    let place = c.loop-level.place in
    let above : k + 1 < length levels = omega (arith, c.loop-level.levels.ok) in
    let low : c.index.result.now ≡ level_at levels k = get_or_read levels k c.index.result.now (omega (arith, above)) c.index.ensures [] in
    let high : c.index_mut.result.now ≡ level_at levels (k + 1) = get_or_read levels (k + 1) c.index_mut.result.now above c.index_mut.ensures.value [] in
    let marks = marks-read levels k place c.index.result.now c.index_mut.result.now c.mark.new.self c.has_any-any.result low high c.has_any-any.ensures c.mark.ensures.marks in
    told-all levels k place c.mark.new.self c.loop-level.invariant.over above marks
    (c.mark.ensures.same c.if-not-mark.true ∙ ap (λ (x : List ℕ). has_any x (place / width)) high)

pub loop-level-preserved : goal.loop-level-preserved
loop-level-preserved c =
    let levels = c.loop-level.levels.items in
    let k = c.loop-level.level in
    let place = c.loop-level.place in
    let new = c.mark.new.self in
    let above : k + 1 < length levels = omega (arith, c.loop-level.levels.ok) in
    let low : c.index.result.now ≡ level_at levels k = get_or_read levels k c.index.result.now (omega (arith, above)) c.index.ensures [] in
    let high : c.index_mut.result.now ≡ level_at levels (k + 1) = get_or_read levels (k + 1) c.index_mut.result.now above c.index_mut.ensures.value [] in
    let marks = marks-read levels k place c.index.result.now c.index_mut.result.now new c.has_any-any.result low high c.has_any-any.ensures c.mark.ensures.marks in
    let many = ap length (get_or-set_same levels (k + 1) new [] above) in
    record {
      over = but-told levels k place new c.loop-level.invariant.over above marks;
      there = omega (arith, many, marks.all, (c.loop-level.invariant.over.here above).covers, c.loop-level.invariant.there);
      lowest = get_or-set_other levels (k + 1) 0 new [] (λ e. absurd (omega (arith, e))) ∙ c.loop-level.invariant.lowest;
    }
