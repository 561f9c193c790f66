use Rattle.std.proofs.Common.{◌≡◌, sym, subst, arith, w64}
use Rattle.std.specs.Int.{trailing_zeros}
use Rattle.std.proofs.lemmas.List.{get_or_read}
use Rattle.strm_levels.specs.Counts.{count_at}
use Rattle.strm_levels.specs.Marks.{IsFirstMark}
use Rattle.strm_levels.proofs.MarkLemmas.{any_inside, first_mark-at}
use Rattle.strm_levels.proofs.level.Level.first_mark.Goals as goal

pub returns : goal.returns
returns c =
    let words = c.self.inside.words.items in
    let any = rw (← c.self.view_is) at c.requires in
    let read : c.index.result.now ≡ count_at words c.args.word = get_or_read words c.args.word c.index.result.now (any_inside words c.args.word any) c.index.ensures 0 in
    rw (← c.self.view_is)
    (subst (λ n. IsFirstMark words c.args.word (trailing_zeros w64 n)) (sym read) (first_mark-at words c.args.word any (omega (arith, read))))
