use Rattle.std.proofs.Common.{◌≡◌, length, ap, arith}
use Rattle.strm_buffers.specs.Said.{WriterSaid}
use Rattle.strm_tape.specs.Spelling.{WriterTape}
use Rattle.strm_uses.proofs.TapeFacts.{none_counted, one_counted, all_counted, few_items}
use Rattle.strm_uses.proofs.tape.produced.Goals as goal

pub loop-k-init : goal.loop-k-init
loop-k-init c = none_counted c.args.writer.now c.in_ok-left.left.said (ap (λ (w : WriterTape). w.said) c.in_ok-left.ensures)

pub take_first-requires : goal.take_first-requires
take_first-requires c = omega (arith, c.loop-k-test.true, c.len-k-end.ensures, c.loop-k.invariant.all)

pub overflow_add-count : goal.overflow_add-count
overflow_add-count c =
    let seen = ap (λ (s : WriterSaid). length s.items) c.said.view_is in
    let items : c.len.result ≡ length c.in_ok-said.said.items = omega (arith, c.len.ensures.exact, seen) in
    let one = one_counted c.args.writer.now c.loop-k.k c.loop-k.count c.len.result c.in_ok-said.said c.loop-k.left.said c.take_first.new.self.said c.in_ok-said.ensures.ok items c.loop-k.invariant in
    omega (arith, one.items, few_items c.args.writer.now c.sound.ensures)

pub loop-k-preserved : goal.loop-k-preserved
loop-k-preserved c =
    let seen = ap (λ (s : WriterSaid). length s.items) c.said.view_is in
    let items : c.len.result ≡ length c.in_ok-said.said.items = omega (arith, c.len.ensures.exact, seen) in
    one_counted c.args.writer.now c.loop-k.k c.loop-k.count c.len.result c.in_ok-said.said c.loop-k.left.said c.take_first.new.self.said c.in_ok-said.ensures.ok items c.loop-k.invariant

pub returns : goal.returns
returns c = all_counted c.args.writer.now c.loop-k.k c.loop-k.count c.loop-k.left.said (omega (arith, c.loop-k-test.false, c.loop-k.auto.k-end, c.len-k-end.ensures)) c.loop-k.invariant
