use Rattle.std.proofs.Common.{◌≡◌, ◌*◌, ◌≤◌, length, Some, ap, ◌∙◌, arith}
use Rattle.std.proofs.Math.Nat.{mul-le-mul_left}
use Rattle.strm_codes.specs.Layout.{item_type}
use Rattle.strm_codes.specs.ItemTypes.{item_size}
use Rattle.strm_memory.specs.Items.{items, good_items}
use Rattle.strm_memory.proofs.RegionLemmas.{AreItems-items}
use Rattle.strm_memory.proofs.GoodLemmas.{length-good_items, good_are}
use Rattle.strm_program_ends.specs.Queues.{most_items, items_fed}
use Rattle.strm_program_ends.proofs.counting.count_items.Goals as goal

pub returns-clause-lie : goal.returns-clause-lie
returns-clause-lie c =
    let ss = item_type c.args.payload.now in
    let bytes = c.args.bytes.now in
    let most : c.most_items-most.result ≡ most_items (item_size ss) (length bytes) = c.most_items-most.ensures.exact ∙ ap (λ s. most_items s (length bytes)) c.size.ensures.exact in
    ap (items ss bytes) c.count_good_items.ensures ∙ good_are ss bytes c.most_items-most.result ∙ ap (λ n. Some (good_items ss bytes n)) most

pub returns-clause-fit : goal.returns-clause-fit
returns-clause-fit c =
    AreItems-items (item_type c.args.payload.now) c.args.bytes.now c.count_good_items.result (items_fed c.args.payload.now c.args.bytes.now) c.are_bytes.ensures (returns-clause-lie c)

pub returns-clause-few : goal.returns-clause-few
returns-clause-few c =
    let most = length-good_items (item_type c.args.payload.now) c.args.bytes.now c.most_items-most.result in
    omega (arith, most, c.count_good_items.ensures, c.most_items-most.ensures.few)

pub returns-clause-within : goal.returns-clause-within
returns-clause-within c =
    let w = item_size (item_type c.args.payload.now) in
    let most = length-good_items (item_type c.args.payload.now) c.args.bytes.now c.most_items-most.result in
    let few : c.count_good_items.result ≤ c.most_items-most.result = omega (arith, most, c.count_good_items.ensures) in
    let room : w * c.most_items-most.result ≤ length c.args.bytes.now = rw (← c.size.ensures.exact) c.most_items-most.ensures.within in
    omega (arith, mul-le-mul_left w few, room)
