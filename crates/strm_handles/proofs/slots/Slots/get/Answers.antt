use Rattle.std.proofs.Common.{◌+◌, ◌%◌, ◌<◌, length, arith}
use Rattle.strm_handles.specs.declared.slots.Slot.TheVariants.{Free, Full}
use Rattle.strm_handles.proofs.ChainLemmas.{number_above, number_read}
use Rattle.strm_handles.proofs.slots.Slots.get.Goals as goal

pub returns-in-Free : goal.returns-in-Free
returns-in-Free g c =
    let t = c.self.inside in
    let slots = t.slots.items in
    let at = (c.args.number + 4294967295) % 4294967296 in
    let inside : at < length slots = omega (arith, c.if-index-len.false, c.len.ensures, t.slots.ok) in
    let above = number_above slots t.free t.first c.args.number c.ranges.number.fits inside c.self.invariant in
    rw (← c.self.view_is) (number_read slots c.args.number at c.index.result.now (Free c.in-Free.field-0) above inside c.index.ensures c.in-Free.is)

pub returns-in-Full : goal.returns-in-Full
returns-in-Full g c =
    let t = c.self.inside in
    let slots = t.slots.items in
    let at = (c.args.number + 4294967295) % 4294967296 in
    let inside : at < length slots = omega (arith, c.if-index-len.false, c.len.ensures, t.slots.ok) in
    let above = number_above slots t.free t.first c.args.number c.ranges.number.fits inside c.self.invariant in
    rw (← c.self.view_is) (number_read slots c.args.number at c.index.result.now (Full c.in-Full.entry) above inside c.index.ensures c.in-Full.is)
