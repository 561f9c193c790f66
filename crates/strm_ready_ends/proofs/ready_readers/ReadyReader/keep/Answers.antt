use Rattle.std.proofs.Common.{◌≡◌, ◌+◌, ◌*◌, ◌≤◌, length, sym, ap, subst, ◌∙◌, length-append}
use Rattle.strm_codes.specs.Layout.{item_type}
use Rattle.strm_codes.specs.ItemTypes.{item_size}
use Rattle.strm_codes.specs.declared.payloads.Payload.{Payload}
use Rattle.strm_buffers.specs.Listing.{LieIn, items_in}
use Rattle.strm_buffers.proofs.ListingLemmas.{length-items_in}
use Rattle.strm_ready_ends.specs.ReceiveQueues.{ReceiveQueue}
use Rattle.strm_ready_ends.proofs.PollLemmas.{room_left}
use Rattle.strm_ready_ends.proofs.ready_readers.ReadyReader.keep.Goals as goal

pub invariant_of-self : goal.invariant_of-self
invariant_of-self c =
    let s = c.self.inside in
    let ss = item_type s.taken.payload in
    let bytes = c.args.bytes.now in
    let taken = c.args.taken in
    let payload : c.args.self.now.payload ≡ s.taken.payload = sym (ap (λ (q : ReceiveQueue). q.payload) c.self.view_is) in
    let few : taken ≤ s.credit = subst (λ (q : ReceiveQueue). taken ≤ q.credit) (sym c.self.view_is) c.requires.few in
    let size : length bytes ≡ item_size ss * taken = c.requires.all ∙ ap (λ (p : Payload). item_size (item_type p) * taken) payload in
    let lie : LieIn ss bytes 0 taken = subst (λ (p : Payload). LieIn (item_type p) bytes 0 taken) payload c.requires.lie in
    let count : length c.push_reserved.new.self.items ≡ length s.taken.items + taken =
    ap length c.push_reserved.ensures.items ∙ length-append s.taken.items (items_in ss bytes 0 taken) ∙ ap (λ n. length s.taken.items + n) (length-items_in ss bytes 0 taken lie) in
    room_left s.taken c.push_reserved.new.self s.credit taken bytes c.self.invariant few
    (record { payload = c.push_reserved.ensures.payload; size = size; left = c.push_reserved.ensures.left; count = count })
