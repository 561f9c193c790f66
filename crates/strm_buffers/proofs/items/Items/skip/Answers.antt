use Rattle.std.proofs.Common.{◌≤◌, length, drop, arith, ap, ◌∙◌}
use Rattle.strm_codes.specs.Layout.{item_type}
use Rattle.strm_codes.specs.ItemTypes.{item_size}
use Rattle.strm_buffers.proofs.ListingLemmas.{length-items_in, lie_skip, cut}
use Rattle.strm_buffers.proofs.items.Items.skip.Goals as goal

pub overflow_sub-self : goal.overflow_sub-self
overflow_sub-self c = omega (arith, c.requires, length-items_in _ _ _ _ c.self.invariant.lie, ap (λ v. length v.items) c.self.view_is)

pub overflow_add-self : goal.overflow_add-self
overflow_add-self c =
    let s = c.self.inside in
    let h : c.args.count ≤ s.len = omega (arith, c.requires, length-items_in _ _ _ _ c.self.invariant.lie, ap (λ v. length v.items) c.self.view_is) in
    rw c.size.ensures.exact (omega (arith, cut (item_size (item_type s.payload)) c.args.count s.len h, c.self.invariant.all))

pub overflow_mul-self : goal.overflow_mul-self
overflow_mul-self c =
    let s = c.self.inside in
    let h : c.args.count ≤ s.len = omega (arith, c.requires, length-items_in _ _ _ _ c.self.invariant.lie, ap (λ v. length v.items) c.self.view_is) in
    rw c.size.ensures.exact (omega (arith, cut (item_size (item_type s.payload)) c.args.count s.len h, c.self.invariant.all))

pub invariant_of-self : goal.invariant_of-self
invariant_of-self c =
    let s = c.self.inside in
    let h : c.args.count ≤ s.len = omega (arith, c.requires, length-items_in _ _ _ _ c.self.invariant.lie, ap (λ v. length v.items) c.self.view_is) in
    rw c.size.ensures.exact (record {
      all = omega (arith, cut (item_size (item_type s.payload)) c.args.count s.len h, c.self.invariant.all);
      lie = (lie_skip (item_type s.payload) s.bytes s.start s.len c.args.count c.self.invariant.lie h).lie;
      few = omega (arith, c.self.invariant.few);
    })

pub returns-clause-items : goal.returns-clause-items
returns-clause-items c =
    let s = c.self.inside in
    let h : c.args.count ≤ s.len = omega (arith, c.requires, length-items_in _ _ _ _ c.self.invariant.lie, ap (λ v. length v.items) c.self.view_is) in
    rw c.size.ensures.exact ((lie_skip (item_type s.payload) s.bytes s.start s.len c.args.count c.self.invariant.lie h).is ∙ ap (λ v. drop c.args.count v.items) c.self.view_is)
