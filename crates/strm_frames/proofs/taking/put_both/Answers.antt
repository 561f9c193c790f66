use Rattle.std.proofs.Common.{◌≡◌, ◌++◌, ◌∙◌, sym, ap, drop, length, arith}
use Rattle.std.proofs.Math.Seq.{drop-append-add}
use Rattle.std.proofs.lemmas.List.{drop_at}
use Rattle.strm_frames.proofs.taking.put_both.Goals as goal

pub returns-then-append_both-clause-left : goal.returns-then-append_both-clause-left
returns-then-append_both-clause-left c = λ q.
    let first : length c.args.rest.now.items ≡ c.len-first.result = omega (arith, c.len-first.ensures, c.args.rest.now.ok.0) in
    let kept : c.keep.new.kept.items ≡ c.args.rest.now.items ++ c.split_at.result.1.now = rw c.if-not-keep.false at c.keep.ensures in
    c.leave.ensures ∙ ap (drop c.len-first.result) kept ∙ drop_at c.args.rest.now.items c.split_at.result.1.now c.len-first.result first
    ∙ c.split_at.ensures.back ∙ sym (drop-append-add c.args.rest.now.items c.args.piece.now c.args.used)
