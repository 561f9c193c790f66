use Rattle.std.proofs.Common.{◌≡◌, ◌+◌, ◌*◌, ◌<◌, ◌++◌, length, sym, ap, subst, ◌∙◌, arith}
use Rattle.strm_codes.specs.Layout.{item_type}
use Rattle.strm_codes.specs.ItemTypes.{item_size}
use Rattle.strm_codes.specs.declared.payloads.Payload.{Payload}
use Rattle.strm_buffers.specs.Listing.{LieIn, items_in}
use Rattle.strm_buffers.proofs.ListingLemmas.{length-items_in}
use Rattle.strm_ready_ends.specs.Waiting.{Waiting}
use Rattle.strm_ready_ends.proofs.QueueLemmas.{kept_more}
use Rattle.strm_ready_ends.proofs.item_queues.ItemQueue.push_reserved.Goals as goal

pub invariant_of-self : goal.invariant_of-self
invariant_of-self c =
    let s = c.self.inside in
    let given = c.args.bytes.now in
    let n = c.args.count in
    let same : c.args.self.now.payload ≡ s.payload = sym (ap (λ (w : Waiting). w.payload) c.self.view_is) in
    let size = subst (λ (p : Payload). length given ≡ item_size (item_type p) * n) same c.requires.all in
    let lie = subst (λ (p : Payload). LieIn (item_type p) given 0 n) same c.requires.lie in
    let few : s.len + n < 4294967295 = omega (arith, c.requires.few, length-items_in _ _ _ _ c.self.invariant.lie, ap (λ (w : Waiting). length w.items) c.self.view_is) in
    rw c.extend_reserved.ensures.items (kept_more s.payload s.bytes.items s.len c.self.invariant given n size lie few).kept

pub returns-clause-items : goal.returns-clause-items
returns-clause-items c =
    let s = c.self.inside in
    let given = c.args.bytes.now in
    let n = c.args.count in
    let same : c.args.self.now.payload ≡ s.payload = sym (ap (λ (w : Waiting). w.payload) c.self.view_is) in
    let size = subst (λ (p : Payload). length given ≡ item_size (item_type p) * n) same c.requires.all in
    let lie = subst (λ (p : Payload). LieIn (item_type p) given 0 n) same c.requires.lie in
    let few : s.len + n < 4294967295 = omega (arith, c.requires.few, length-items_in _ _ _ _ c.self.invariant.lie, ap (λ (w : Waiting). length w.items) c.self.view_is) in
    rw c.extend_reserved.ensures.items ((kept_more s.payload s.bytes.items s.len c.self.invariant given n size lie few).is
    ∙ ap (λ (w : Waiting). w.items ++ items_in (item_type w.payload) given 0 n) c.self.view_is)

pub overflow_add-self : goal.overflow_add-self
overflow_add-self c = omega (arith, c.requires.few, length-items_in _ _ _ _ c.self.invariant.lie, ap (λ (w : Waiting). length w.items) c.self.view_is)

pub extend_reserved-requires : goal.extend_reserved-requires
extend_reserved-requires c = rw (ap (λ (w : Waiting). w.room) c.self.view_is) c.requires.room
