use Rattle.std.proofs.Common.{◌≡◌, ◌*◌, ◌≤◌, length, take, ap, subst, ◌∙◌, arith}
use Rattle.strm_codes.specs.Layout.{item_type}
use Rattle.strm_codes.specs.ItemTypes.{item_size}
use Rattle.strm_buffers.specs.Listing.{LieIn, items_in}
use Rattle.strm_buffers.proofs.ListingLemmas.{length-items_in}
use Rattle.strm_ready_ends.specs.Waiting.{Waiting}
use Rattle.strm_ready_ends.proofs.QueueLemmas.{kept_first, first_inside}
use Rattle.strm_ready_ends.proofs.item_queues.ItemQueue.first.Goals as goal

pub overflow_mul-size : goal.overflow_mul-size
overflow_mul-size c =
    let s = c.self.inside in
    let h : c.args.count ≤ s.len = omega (arith, c.requires, length-items_in _ _ _ _ c.self.invariant.lie, ap (λ (w : Waiting). length w.items) c.self.view_is) in
    omega (arith, first_inside s.payload s.bytes.items s.len c.self.invariant c.args.count c.size-size.result h c.size-size.ensures.exact, c.len.ensures.value, c.len.ensures.bound)

pub split_at-requires : goal.split_at-requires
split_at-requires c =
    let s = c.self.inside in
    let h : c.args.count ≤ s.len = omega (arith, c.requires, length-items_in _ _ _ _ c.self.invariant.lie, ap (λ (w : Waiting). length w.items) c.self.view_is) in
    omega (arith, first_inside s.payload s.bytes.items s.len c.self.invariant c.args.count c.size-size.result h c.size-size.ensures.exact, ap length c.as_slice.ensures)

pub returns-clause-lie : goal.returns-clause-lie
returns-clause-lie c =
    let s = c.self.inside in
    let ss = item_type s.payload in
    let front = c.split_at.result.0.now in
    let h : c.args.count ≤ s.len = omega (arith, c.requires, length-items_in _ _ _ _ c.self.invariant.lie, ap (λ (w : Waiting). length w.items) c.self.view_is) in
    let e : front ≡ take (item_size ss * c.args.count) s.bytes.items = rw (← c.size-size.ensures.exact, ← c.as_slice.ensures) c.split_at.ensures.front in
    let n : length front ≡ item_size ss * c.args.count = c.split_at.ensures.front_len ∙ ap (λ w. w * c.args.count) c.size-size.ensures.exact in
    subst (λ (w : Waiting). LieIn (item_type w.payload) front 0 c.args.count) c.self.view_is (kept_first s.payload s.bytes.items s.len c.self.invariant front c.args.count h e n).lie

pub returns-clause-items : goal.returns-clause-items
returns-clause-items c =
    let s = c.self.inside in
    let ss = item_type s.payload in
    let front = c.split_at.result.0.now in
    let h : c.args.count ≤ s.len = omega (arith, c.requires, length-items_in _ _ _ _ c.self.invariant.lie, ap (λ (w : Waiting). length w.items) c.self.view_is) in
    let e : front ≡ take (item_size ss * c.args.count) s.bytes.items = rw (← c.size-size.ensures.exact, ← c.as_slice.ensures) c.split_at.ensures.front in
    let n : length front ≡ item_size ss * c.args.count = c.split_at.ensures.front_len ∙ ap (λ w. w * c.args.count) c.size-size.ensures.exact in
    subst (λ (w : Waiting). items_in (item_type w.payload) front 0 c.args.count ≡ take c.args.count w.items) c.self.view_is (kept_first s.payload s.bytes.items s.len c.self.invariant front c.args.count h e n).is

pub returns-clause-all : goal.returns-clause-all
returns-clause-all c =
    let front = c.split_at.result.0.now in
    let n : length front ≡ item_size (item_type c.self.inside.payload) * c.args.count = c.split_at.ensures.front_len ∙ ap (λ w. w * c.args.count) c.size-size.ensures.exact in
    subst (λ (w : Waiting). length front ≡ item_size (item_type w.payload) * c.args.count) c.self.view_is n
