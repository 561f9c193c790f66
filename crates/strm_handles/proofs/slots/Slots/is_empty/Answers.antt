use Rattle.std.proofs.Common.{arith}
use Rattle.std.proofs.lemmas.List.{length-map}
use Rattle.std.proofs.lemmas.Bool.Decides.{Decides-eqb}
use Rattle.strm_handles.specs.Chain.{entry_of}
use Rattle.strm_handles.proofs.ChainLemmas.{length-chain}
use Rattle.strm_handles.proofs.slots.Slots.is_empty.Goals as goal

pub returns : goal.returns
returns g c =
    let t = c.self.inside in
    let all = c.self.invariant.all in
    let free = length-chain t.slots.items t.free t.first in
    let slots = length-map t.slots.items entry_of in
    let test = Decides-eqb t.free c.len.result in
    rw (← c.self.view_is) (
      (λ e. omega (arith, test.0 e, t.slots.ok)),
      (λ e. test.1 (omega (arith, t.slots.ok))),
    )
