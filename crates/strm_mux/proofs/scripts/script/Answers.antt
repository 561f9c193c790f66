use Rattle.std.proofs.Common.{◌≢◌, ◌∙◌, sym, length, arith}
use Rattle.std.proofs.lemmas.Bool.{eqb-true, eqb-false}
use Rattle.strm_mux.proofs.ScriptLemmas.{pieces_more, pieces_end}
use Rattle.strm_mux.proofs.scripts.script.Goals as goal

pub pieces-preserved : goal.pieces-preserved
pieces-preserved c =
    let some : length c.pieces.rest.now ≢ 0 = eqb-false (length c.pieces.rest.now) 0 (sym c.is_empty.ensures ∙ c.pieces-test.true) in
    pieces_more c.pieces.steps _ c.args.write c.args.read c.args.bytes.now c.pieces.rest.now c.split_at.result.0.now c.split_at.result.1.now c.requires.write.0
    (record { some = omega arith; front = rw c.min.ensures at c.split_at.ensures.front; back = rw c.min.ensures at c.split_at.ensures.back })
    c.in_ok-push_piece.ensures.ok c.pieces.invariant

pub returns-clause-ok : goal.returns-clause-ok
returns-clause-ok c = pieces_end c.pieces.steps c.args.write c.args.read c.args.bytes.now c.pieces.rest.now (eqb-true (length c.pieces.rest.now) 0 (sym c.is_empty.ensures ∙ c.pieces-test.false)) c.pieces.invariant
