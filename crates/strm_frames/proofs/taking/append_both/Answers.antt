use Rattle.std.proofs.Common.{◌≡◌, map, length, arith}
use Rattle.std.proofs.lemmas.List.{length-map}
use Rattle.strm_frames.proofs.BothLemmas.{appends_both, again_some, again_all}
use Rattle.strm_frames.proofs.taking.append_both.Goals as goal

pub returns-in-Err-clause-err : goal.returns-in-Err-clause-err
returns-in-Err-clause-err c = λ q. again_some c.args.first.now c.in-Err.done _ _ _ c.in-Err.ensures.err c.retract.ensures

pub returns-in-Err-append-clause-err : goal.returns-in-Err-append-clause-err
returns-in-Err-append-clause-err c = λ q.
    let long : length (map (λ v. v.items) c.args.lanes.now) ≡ 256 = omega (arith, c.told-lanes, length-map c.args.lanes.now (λ v. v.items)) in
    let mid = again_some c.args.second.now c.in-Err-append.done _ _ _ c.in-Err-append.ensures.err c.retract-in-Err-append.ensures in
    again_all c.args.first.now _ _ _ long c.in_default.ensures.ok (rw mid at c.retract-in-Err-append-2.ensures)

pub returns-clause-ok : goal.returns-clause-ok
returns-clause-ok c = λ q. appends_both c.args.first.now c.args.second.now _ _ _ c.requires c.in_default.ensures.ok c.in_default-append.ensures.ok
