use Rattle.std.proofs.Common.{◌<◌, ◌∙◌, length, refl, arith}
use Rattle.strm_frames.proofs.CompletingLemmas.{StopsAfter, completed_none, completed_some, short, longer}
use Rattle.strm_frames.proofs.taking.complete.Goals as goal

pub returns-then-before-eq0-clause-ok : goal.returns-then-before-eq0-clause-ok
returns-then-before-eq0-clause-ok c = completed_none c.args.rest.now.items c.args.piece.now (omega (arith, c.len-before.ensures, c.if-before-eq0.true, c.args.rest.now.ok.0))

pub overflow_sub-result : goal.overflow_sub-result
overflow_sub-result c =
    let s : StopsAfter c.deref.result.now c.in-Some.len = record { some = c.in-Some.ensures.some.0; within = c.in-Some.ensures.some.1; stops = c.in-Some.ensures.stops } in
    let past : length c.args.rest.now.items < c.in-Some.len = longer c.args.rest.now.items c.split_at.result.0.now c.in-Some.len c.requires (rw (c.deref.ensures.value ∙ c.in_ok-add.ensures.ok) at s) in
    omega (arith, past, c.len-before.ensures, c.args.rest.now.ok.0)

pub returns-in-None-clause-ok : goal.returns-in-None-clause-ok
returns-in-None-clause-ok c = short c.args.rest.now.items c.split_at.result.0.now c.args.piece.now _ (omega (arith, c.len-before.ensures, c.if-before-eq0.false, c.args.rest.now.ok.0)) (rw c.min.ensures at c.split_at.ensures.front) c.in_ok-add.ensures.ok (rw c.deref.ensures.value at (c.in-None.ensures.part refl))

pub returns-in-Some-clause-ok : goal.returns-in-Some-clause-ok
returns-in-Some-clause-ok c =
    let s : StopsAfter c.deref.result.now c.in-Some.len = record { some = c.in-Some.ensures.some.0; within = c.in-Some.ensures.some.1; stops = c.in-Some.ensures.stops } in
    completed_some c.args.rest.now.items c.split_at.result.0.now c.args.piece.now c.add.new.kept.items _ c.in-Some.len _ c.requires (rw c.min.ensures at c.split_at.ensures.front) c.in_ok-add.ensures.ok (rw c.deref.ensures.value at s) c.truncate.ensures.items (omega (arith, c.len-before.ensures, c.args.rest.now.ok.0))
