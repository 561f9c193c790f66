use Rattle.std.proofs.Common.{◌≡◌, ◌+◌, ◌*◌, ◌≤◌, length, take, drop, sym, ap, subst, ◌∙◌, arith}
use Rattle.strm_codes.specs.Layout.{item_type}
use Rattle.strm_codes.specs.ItemTypes.{item_size}
use Rattle.strm_buffers.specs.Listing.{LieIn, items_in}
use Rattle.strm_buffers.proofs.ListingLemmas.{length-items_in, lie_part, part_inside}
use Rattle.strm_program_ends.specs.Fed.{AllFed}
use Rattle.strm_program_ends.proofs.feeds.Feeds.bytes_of.Goals as goal

pub overflow_mul-size : goal.overflow_mul-size
overflow_mul-size c =
    let s = c.self.inside in
    let h : c.args.start + c.args.count ≤ s.len = omega (arith, c.requires, length-items_in _ _ _ _ c.self.invariant.lie, ap (λ v. length v.items) c.self.view_is) in
    let e : length s.bytes.items ≡ c.size-size.result * s.len = c.self.invariant.all ∙ ap (λ w. w * s.len) (sym c.size-size.ensures.exact) in
    omega (arith, part_inside c.size-size.result c.args.start c.args.count s.len (length s.bytes.items) h e, c.len.ensures.value, c.len.ensures.bound)

pub split_at-requires : goal.split_at-requires
split_at-requires c =
    let s = c.self.inside in
    let h : c.args.start + c.args.count ≤ s.len = omega (arith, c.requires, length-items_in _ _ _ _ c.self.invariant.lie, ap (λ v. length v.items) c.self.view_is) in
    let e : length s.bytes.items ≡ c.size-size.result * s.len = c.self.invariant.all ∙ ap (λ w. w * s.len) (sym c.size-size.ensures.exact) in
    omega (arith, part_inside c.size-size.result c.args.start c.args.count s.len (length s.bytes.items) h e, ap length c.as_slice.ensures)

pub split_at-requires-2 : goal.split_at-requires-2
split_at-requires-2 c =
    let s = c.self.inside in
    let h : c.args.start + c.args.count ≤ s.len = omega (arith, c.requires, length-items_in _ _ _ _ c.self.invariant.lie, ap (λ v. length v.items) c.self.view_is) in
    let e : length s.bytes.items ≡ c.size-size.result * s.len = c.self.invariant.all ∙ ap (λ w. w * s.len) (sym c.size-size.ensures.exact) in
    omega (arith, part_inside c.size-size.result c.args.start c.args.count s.len (length s.bytes.items) h e, ap length c.as_slice.ensures, c.split_at.ensures.back_len)

pub returns-clause-lie : goal.returns-clause-lie
returns-clause-lie c =
    let s = c.self.inside in
    let ss = item_type s.payload in
    let h : c.args.start + c.args.count ≤ s.len = omega (arith, c.requires, length-items_in _ _ _ _ c.self.invariant.lie, ap (λ v. length v.items) c.self.view_is) in
    let e : c.split_at-2.result.0.now ≡ take (item_size ss * c.args.count) (drop (item_size ss * c.args.start) s.bytes.items) = rw (← c.size-size.ensures.exact, ← c.as_slice.ensures) (c.split_at-2.ensures.front ∙ ap (take (c.size-size.result * c.args.count)) c.split_at.ensures.back) in
    let n : length c.split_at-2.result.0.now ≡ item_size ss * c.args.count = c.split_at-2.ensures.front_len ∙ ap (λ w. w * c.args.count) c.size-size.ensures.exact in
    subst (λ (v : AllFed). LieIn (item_type v.payload) c.split_at-2.result.0.now 0 c.args.count) c.self.view_is (lie_part ss s.bytes.items c.split_at-2.result.0.now s.len c.args.start c.args.count c.self.invariant.lie h e n).lie

pub returns-clause-items : goal.returns-clause-items
returns-clause-items c =
    let s = c.self.inside in
    let ss = item_type s.payload in
    let h : c.args.start + c.args.count ≤ s.len = omega (arith, c.requires, length-items_in _ _ _ _ c.self.invariant.lie, ap (λ v. length v.items) c.self.view_is) in
    let e : c.split_at-2.result.0.now ≡ take (item_size ss * c.args.count) (drop (item_size ss * c.args.start) s.bytes.items) = rw (← c.size-size.ensures.exact, ← c.as_slice.ensures) (c.split_at-2.ensures.front ∙ ap (take (c.size-size.result * c.args.count)) c.split_at.ensures.back) in
    let n : length c.split_at-2.result.0.now ≡ item_size ss * c.args.count = c.split_at-2.ensures.front_len ∙ ap (λ w. w * c.args.count) c.size-size.ensures.exact in
    subst (λ (v : AllFed). items_in (item_type v.payload) c.split_at-2.result.0.now 0 c.args.count ≡ take c.args.count (drop c.args.start v.items)) c.self.view_is (lie_part ss s.bytes.items c.split_at-2.result.0.now s.len c.args.start c.args.count c.self.invariant.lie h e n).is
