use Rattle.std.proofs.Common.{◌≡◌, length, sym, ap, ◌∙◌, arith, length-drop}
use Rattle.std.specs.Prelude.{◌-◌, min}
use Rattle.strm_tape_runs.proofs.SameLemmas.{behind_more, behind_differs, apart_at, first_behind}
use Rattle.strm_tape_runs.proofs.differing.writer_difference.Goals as goal

pub take_first-requires : goal.take_first-requires
take_first-requires g c =
    omega (arith, c.loop-at-test.true, c.min-both.ensures, c.len-count.ensures, ap (λ xs. length xs) c.loop-at.invariant.1, length-drop c.loop-at.at c.args.tape.now.said)

pub loop-at-preserved : goal.loop-at-preserved
loop-at-preserved g c =
    let first = first_behind c.args.tape.now.said c.loop-at.coming.said c.take_first.new.self.said c.loop-at.at c.in_ok-said.said c.loop-at.invariant.1 c.in_ok-said.ensures.ok in (
      behind_more _ _ c.args.from c.loop-at.at c.in_ok-said.said (c.in_ok-is_writer_record.ensures.0 c.if-not-branch.false) first.there c.loop-at.invariant.0,
      first.behind,
    )

pub returns-then-not-branch-clause-differ : goal.returns-then-not-branch-clause-differ
returns-then-not-branch-clause-differ g c =
    let first = first_behind c.args.tape.now.said c.loop-at.coming.said c.take_first.new.self.said c.loop-at.at c.in_ok-said.said c.loop-at.invariant.1 c.in_ok-said.ensures.ok in
    behind_differs _ c.args.tape.now.said c.args.from c.loop-at.at c.in_ok-said.said
    (omega (arith, c.loop-at-test.true, c.min-both.ensures, c.writer_records.ensures, c.requires.added))
    first.there (λ s. let same = c.in_ok-is_writer_record.ensures.1 s in let other = c.if-not-branch.true in cc) c.loop-at.invariant.0

pub returns-clause-differ : goal.returns-clause-differ
returns-clause-differ g c =
    let added = c.writer_records.result - c.args.from in
    apart_at _ c.args.tape.now.said c.args.from c.writer_records.result c.loop-at.at c.min-both.result c.writer_records.ensures
    (omega (arith, c.loop-at-test.false, c.loop-at.auto.at-end)) (λ q. c.if-added-count.false (q ∙ sym c.len-count.ensures))
    (c.min-both.ensures ∙ ap (λ k. min added k) c.len-count.ensures) c.loop-at.invariant.0
