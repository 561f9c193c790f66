use Rattle.std.proofs.Common.{◌≡◌, ◌+◌, length, Err, ap, sym, ◌∙◌, arith}
use Rattle.std.proofs.lemmas.Bool.{eqb-true}
use Rattle.strm_mux.proofs.LineLemmas.{nothing_held, held_more, all_held, refused_line}
use Rattle.strm_mux.proofs.lines.mux_of.Goals as goal

pub loop-rest-init : goal.loop-rest-init
loop-rest-init c = record {
  holds = nothing_held c.new-mux.result c.args.bytes.now c.new-mux.ensures.bytes c.new-mux.ensures.carries;
  few = omega arith;
}

pub returns-in-Err-Bad-clause-bad_line : goal.returns-in-Err-Bad-clause-bad_line
returns-in-Err-Bad-clause-bad_line c = λ line e.
    let same : c.loop-rest.count + 1 ≡ line = cc in
    rw same at (refused_line c.loop-rest.mux c.args.bytes.now c.loop-rest.rest.now c.first_line.result.0.now c.first_line.result.1.now c.loop-rest.count c.loop-rest.invariant.holds c.first_line.ensures.lines (c.in-Err-Bad.ensures.bad (ap Err c.in-Err-Bad.field-0-is)))

pub loop-rest-preserved : goal.loop-rest-preserved
loop-rest-preserved c = record {
  holds = held_more c.loop-rest.mux c.put_line.new.mux c.args.bytes.now c.loop-rest.rest.now c.first_line.result.0.now c.first_line.result.1.now c.loop-rest.count c.loop-rest.invariant.holds c.first_line.ensures.lines c.in-Ok.ensures.ok;
  few = omega (arith, c.loop-rest.invariant.few, c.first_line.ensures.less);
}

pub returns-clause-ok : goal.returns-clause-ok
returns-clause-ok c =
    all_held c.loop-rest.mux c.args.bytes.now c.loop-rest.rest.now c.loop-rest.count c.loop-rest.invariant.holds
    (eqb-true (length c.loop-rest.rest.now) 0 (sym c.is_empty.ensures ∙ c.loop-rest-test.false))
