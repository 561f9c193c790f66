-- What one more holds fits.
use Rattle.std.proofs.Common.{◌<◌, ◌∙◌, map, length, sym, subst, ap, arith}
use Rattle.std.specs.Prelude.{All}
use Rattle.std.proofs.lemmas.List.{take_all, get_or-map, length-map}
use Rattle.std.proofs.lemmas.List.Elements.{All-more}
use Rattle.strm_buffers.specs.Tells.{HoldsItems, no_tells}
use Rattle.strm_ready_ends.specs.SendQueues.{ready_tells}
use Rattle.strm_host_store.proofs.ready_ends.ReadyEndsHostEnds.sound.Goals as goal

pub loop-number-preserved : goal.loop-number-preserved
loop-number-preserved c =
    let ws = c.args.self.now.writers.items in
    let n = c.loop-number.number in
    let lt : n < length ws = omega (arith, c.loop-number-test.true, c.len-number-end.ensures) in
    let there : n < length (map ready_tells ws) = omega (arith, lt, length-map ws ready_tells) in
    let is = ap ready_tells c.index.ensures ∙ sym (get_or-map ready_tells ws n c.index.result.now no_tells lt) in
    All-more HoldsItems (map ready_tells ws) n no_tells there c.loop-number.invariant (subst HoldsItems is c.held.ensures.fit)

pub returns : goal.returns
returns c =
    let ws = c.args.self.now.writers.items in
    subst (All HoldsItems) (take_all c.loop-number.number (map ready_tells ws) (omega (arith, c.loop-number-test.false, c.len-number-end.ensures, length-map ws ready_tells))) c.loop-number.invariant
