use Rattle.std.proofs.Common.{◌≢◌, ◌<◌, sym, ◌∙◌, ap, length, arith, append_assoc, ◌++◌, ◌≡◌}
use Rattle.std.proofs.lemmas.Bool.{eqb-true, eqb-false}
use Rattle.strm_frames.proofs.MuxLemmas.{pushes_none, pushes_more, pushes_all}
use Rattle.strm_frames.proofs.muxes.push_frames.Goals as goal

pub pieces-init : goal.pieces-init
pieces-init c = pushes_none c.args.lane c.args.bytes.now _

pub pieces-preserved : goal.pieces-preserved
pieces-preserved c =
    let ne : length c.pieces.rest.now ≢ 0 = eqb-false (length c.pieces.rest.now) 0 (sym c.is_empty.ensures ∙ c.pieces-test.true) in
    let some : 0 < length c.pieces.rest.now = omega arith in
    pushes_more c.args.lane c.args.bytes.now c.pieces.rest.now c.split_at.result.0.now c.split_at.result.1.now _ _ _ some (rw c.min.ensures at c.split_at.ensures.front) (rw c.min.ensures at c.split_at.ensures.back) c.pieces.invariant (c.push_frame.ensures.ok c.if-not-push_frame.false)

pub returns-clause-ok : goal.returns-clause-ok
returns-clause-ok c = λ u. pushes_all c.args.lane c.args.bytes.now c.pieces.rest.now _ _ (eqb-true (length c.pieces.rest.now) 0 (sym c.is_empty.ensures ∙ c.pieces-test.false)) c.pieces.invariant

pub returns-then-not-push_frame-clause-err : goal.returns-then-not-push_frame-clause-err
returns-then-not-push_frame-clause-err c = λ u.
    let e = c.push_frame.ensures.err c.if-not-push_frame.true in
    (c.pieces.invariant.front ++ e.0, e.1 ∙ ap (λ s. s ++ e.0) c.pieces.invariant.now_is ∙ append_assoc _ _ e.0)

pub returns-then-not-push_frame-clause-none : goal.returns-then-not-push_frame-clause-none
returns-then-not-push_frame-clause-none c = λ e.
    let ne : length c.pieces.rest.now ≢ 0 = eqb-false (length c.pieces.rest.now) 0 (sym c.is_empty.ensures ∙ c.pieces-test.true) in
    let none : length c.args.bytes.now ≡ 0 = ap length e in
    absurd (ne (omega (arith, c.pieces.invariant.left, none)))
