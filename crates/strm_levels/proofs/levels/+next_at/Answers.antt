-- The place in the next word that has any is there, so its number fits; and it is the next.
use Rattle.std.proofs.Common.{◌≡◌, ◌+◌, ◌*◌, ◌/◌, ◌<◌, List, ℕ, [], length, ap, subst, arith}
use Rattle.std.proofs.lemmas.List.{get_or_read}
use Rattle.strm_levels.specs.Marks.{level_at, IsFirstMark, HasNoMark, width}
use Rattle.strm_levels.proofs.MarkLemmas.{first-inside, next-in_next}
use Rattle.strm_levels.proofs.levels.+next_at.Goals as goal

pub overflow_mul-result : goal.overflow_mul-result
overflow_mul-result t c =
    let levels = c.args.levels.now in
    let k = c.args.level in
    let above : k + 1 < length levels = omega arith in
    let low : c.index-levels-level-2.result ≡ level_at levels k = get_or_read levels k c.index-levels-level-2.result c.requires.there c.index-levels-level-2.is [] in
    let high : c.index-levels-level-in-Some-next_at.result ≡ level_at levels (k + 1) = get_or_read levels (k + 1) c.index-levels-level-in-Some-next_at.result above c.index-levels-level-in-Some-next_at.is [] in
    let first = subst (λ (x : List ℕ). IsFirstMark x c.in-Some-next_at.word c.first_mark-bit.result) high c.first_mark-bit.ensures in
    let inside = first-inside (level_at levels k) (level_at levels (k + 1)) c.in-Some-next_at.word c.first_mark-bit.result (c.requires.over.each k above) first in
    let many = ap length low in
    omega (arith, inside, many, c.len.ensures, c.len.type_inv)

pub returns-in-Some-next_at-clause-some : goal.returns-in-Some-next_at-clause-some
returns-in-Some-next_at-clause-some t c =
    let levels = c.args.levels.now in
    let k = c.args.level in
    let above : k + 1 < length levels = omega arith in
    let high : c.index-levels-level-in-Some-next_at.result ≡ level_at levels (k + 1) = get_or_read levels (k + 1) c.index-levels-level-in-Some-next_at.result above c.index-levels-level-in-Some-next_at.is [] in
    let asked : c.index-levels-level-3.result ≡ level_at levels (k + 1) = get_or_read levels (k + 1) c.index-levels-level-3.result above c.index-levels-level-3.is [] in
    let first = subst (λ (x : List ℕ). IsFirstMark x c.in-Some-next_at.word c.first_mark-bit.result) high c.first_mark-bit.ensures in
    let none : HasNoMark (level_at levels (k + 1)) c.args.from (width * (c.args.from / width + 1)) = subst (λ (x : List ℕ). HasNoMark x c.args.from (width * (c.args.from / width + 1))) asked c.in_default.ensures.none in
    next-in_next (level_at levels k) (level_at levels (k + 1)) c.args.from c.in-Some-next_at.word c.first_mark-bit.result (c.requires.over.each k above) none c.in-Some-next_at.ensures.some first
