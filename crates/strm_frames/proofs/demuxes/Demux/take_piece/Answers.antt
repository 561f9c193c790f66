use Rattle.std.proofs.Common.{◌≡◌, ◌++◌, ◌+◌, ◌∙◌, sym, ap, take, length, arith}
use Rattle.std.proofs.lemmas.List.{take_at}
use Rattle.strm_frames.specs.Demuxes.{error_of}
use Rattle.strm_frames.specs.Taking.{IsCompleted}
use Rattle.strm_frames.proofs.DemuxLemmas.{feeds_on, fault_left, left_part, both_all}
use Rattle.strm_frames.proofs.demuxes.Demux.take_piece.Goals as goal

pub invariant_of-self-in-Ok : goal.invariant_of-self-in-Ok
invariant_of-self-in-Ok c =
    let s = rw c.deref.ensures.value at c.in-Ok.ensures.ok in
    left_part (c.complete.new.rest.items ++ c.split_at.result.1.now) _ _ _ (length c.complete.new.rest.items + c.in-Ok.used) s (c.put_both.ensures.left c.if-not-put_both.false)

pub returns-in-Err-clause-fault : goal.returns-in-Err-clause-fault
returns-in-Err-clause-fault c = λ fault none e.
    let b : IsCompleted c.self.inside.rest.items c.complete.new.rest.items c.args.piece.now c.in-Some-2.begun = rw c.in-Some-2.is at c.in_ok-begun.ensures.ok in
    let before : c.len-before.result ≡ length c.self.inside.rest.items = omega (arith, c.len-before.ensures, c.self.inside.rest.ok.0) in
    let error : c.error-in-Err.result ≡ error_of fault = cc in
    let same : error_of c.in-Err.fault ≡ error_of fault = sym c.error-in-Err.ensures ∙ error in
    let left = fault_left _ _ c.args.piece.now _ c.in-Err.fault fault c.self.view_is (record {
      bytes = c.complete.new.rest.items ++ c.split_at.result.1.now;
      all = both_all c.self.inside.rest.items c.args.piece.now _ _ c.in-Some-2.begun b.added c.split_at.ensures.back;
      surveys = rw c.deref.ensures.value at c.in-Err.ensures.fault;
      again = c.truncate.ensures.items ∙ ap (take c.len-before.result) b.added ∙ take_at c.self.inside.rest.items (take c.in-Some-2.begun c.args.piece.now) c.len-before.result (sym before);
    }) c.self.told same in
    (left.state, left.faults)

pub returns-else-not-put_both-clause-ok : goal.returns-else-not-put_both-clause-ok
returns-else-not-put_both-clause-ok c =
    let b : IsCompleted c.self.inside.rest.items c.complete.new.rest.items c.args.piece.now c.in-Some-2.begun = rw c.in-Some-2.is at c.in_ok-begun.ensures.ok in
    feeds_on _ _ _ c.args.piece.now c.self.view_is (record {
      bytes = c.complete.new.rest.items ++ c.split_at.result.1.now;
      used = length c.complete.new.rest.items + c.in-Ok.used;
      all = both_all c.self.inside.rest.items c.args.piece.now _ _ c.in-Some-2.begun b.added c.split_at.ensures.back;
      surveys = rw c.deref.ensures.value at c.in-Ok.ensures.ok;
      appends = c.put_both.ensures.ok c.if-not-put_both.false;
      left = c.put_both.ensures.left c.if-not-put_both.false;
      place = omega (arith, c.saturating_add-self-inside.ensures, c.len-first.ensures, c.complete.new.rest.ok.0);
    }) c.self.told
