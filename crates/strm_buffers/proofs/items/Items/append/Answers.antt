use Rattle.strm_buffers.proofs.ListingLemmas.{kept_append}
use Rattle.strm_buffers.proofs.items.Items.append.Goals as goal

pub invariant_of-self-2 : goal.invariant_of-self-2
invariant_of-self-2 c =
    let s = c.self.inside in
    let more = kept_append s.payload s.bytes s.start s.len c.args.self.now c.self.invariant c.self.view_is c.bytes.result.now c.args.more.now c.requires.payload (record { lie = c.bytes.ensures.lie; is = c.bytes.ensures.items }) c.bytes.ensures.all c.requires.few in
    rw (c.in_ok-extend.ensures.ok, c.len.ensures.exact) more.kept

pub returns-clause-ok : goal.returns-clause-ok
returns-clause-ok c =
    let s = c.self.inside in
    let more = kept_append s.payload s.bytes s.start s.len c.args.self.now c.self.invariant c.self.view_is c.bytes.result.now c.args.more.now c.requires.payload (record { lie = c.bytes.ensures.lie; is = c.bytes.ensures.items }) c.bytes.ensures.all c.requires.few in
    rw (c.in_ok-extend.ensures.ok, c.len.ensures.exact) more.items
