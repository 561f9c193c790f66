use Rattle.std.proofs.Common.{◌≡◌, ◌*◌, ◌≤◌, length, drop, ap, ◌∙◌, arith}
use Rattle.strm_codes.specs.Layout.{item_type}
use Rattle.strm_codes.specs.ItemTypes.{item_size}
use Rattle.strm_buffers.proofs.ListingLemmas.{length-items_in}
use Rattle.strm_ready_ends.specs.Waiting.{Waiting}
use Rattle.strm_ready_ends.proofs.QueueLemmas.{kept_fewer, first_inside}
use Rattle.strm_ready_ends.proofs.item_queues.ItemQueue.skip.Goals as goal

pub overflow_mul-size : goal.overflow_mul-size
overflow_mul-size c =
    let s = c.self.inside in
    let h : c.args.count ≤ s.len = omega (arith, c.requires, length-items_in _ _ _ _ c.self.invariant.lie, ap (λ (w : Waiting). length w.items) c.self.view_is) in
    omega (arith, first_inside s.payload s.bytes.items s.len c.self.invariant c.args.count c.size.result h c.size.ensures.exact, c.len.ensures.value, c.len.ensures.bound)

pub give_up-requires : goal.give_up-requires
give_up-requires c =
    let s = c.self.inside in
    let h : c.args.count ≤ s.len = omega (arith, c.requires, length-items_in _ _ _ _ c.self.invariant.lie, ap (λ (w : Waiting). length w.items) c.self.view_is) in
    first_inside s.payload s.bytes.items s.len c.self.invariant c.args.count c.size.result h c.size.ensures.exact

pub overflow_sub-self : goal.overflow_sub-self
overflow_sub-self c = omega (arith, c.requires, length-items_in _ _ _ _ c.self.invariant.lie, ap (λ (w : Waiting). length w.items) c.self.view_is)

pub invariant_of-self : goal.invariant_of-self
invariant_of-self c =
    let s = c.self.inside in
    let h : c.args.count ≤ s.len = omega (arith, c.requires, length-items_in _ _ _ _ c.self.invariant.lie, ap (λ (w : Waiting). length w.items) c.self.view_is) in
    let new = c.give_up.new.bytes.items in
    let e : new ≡ drop (item_size (item_type s.payload) * c.args.count) s.bytes.items = rw (← c.size.ensures.exact) c.give_up.ensures.items in
    (kept_fewer s.payload s.bytes.items s.len c.self.invariant new c.args.count h e).kept

pub returns-clause-items : goal.returns-clause-items
returns-clause-items c =
    let s = c.self.inside in
    let h : c.args.count ≤ s.len = omega (arith, c.requires, length-items_in _ _ _ _ c.self.invariant.lie, ap (λ (w : Waiting). length w.items) c.self.view_is) in
    let new = c.give_up.new.bytes.items in
    let e : new ≡ drop (item_size (item_type s.payload) * c.args.count) s.bytes.items = rw (← c.size.ensures.exact) c.give_up.ensures.items in
    (kept_fewer s.payload s.bytes.items s.len c.self.invariant new c.args.count h e).is ∙ ap (λ (w : Waiting). drop c.args.count w.items) c.self.view_is
