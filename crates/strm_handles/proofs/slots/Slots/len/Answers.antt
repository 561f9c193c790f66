use Rattle.std.proofs.Common.{arith}
use Rattle.std.proofs.lemmas.List.{length-map}
use Rattle.strm_handles.specs.Chain.{entry_of}
use Rattle.strm_handles.proofs.ChainLemmas.{length-chain}
use Rattle.strm_handles.proofs.slots.Slots.len.Goals as goal

pub overflow_sub-result : goal.overflow_sub-result
overflow_sub-result g c =
    let t = c.self.inside in
    let all = c.self.invariant.all in
    let free = length-chain t.slots.items t.free t.first in
    let slots = length-map t.slots.items entry_of in
    omega (arith, c.len.ensures, t.slots.ok)

pub returns : goal.returns
returns g c =
    let t = c.self.inside in
    let all = c.self.invariant.all in
    let free = length-chain t.slots.items t.free t.first in
    let slots = length-map t.slots.items entry_of in
    rw (← c.self.view_is) (omega (arith, c.len.ensures, t.slots.ok))
