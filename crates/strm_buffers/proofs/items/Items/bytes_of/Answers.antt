use Rattle.std.proofs.Common.{◌≡◌, ◌*◌, length, take, drop, sym, ap, ◌∙◌, arith}
use Rattle.strm_codes.specs.Layout.{item_type}
use Rattle.strm_codes.specs.ItemTypes.{item_size}
use Rattle.strm_buffers.specs.Listing.{TypedItems}
use Rattle.strm_buffers.proofs.ListingLemmas.{lie_part, part_inside}
use Rattle.strm_buffers.proofs.items.Items.bytes_of.Goals as goal

pub overflow_mul-size : goal.overflow_mul-size
overflow_mul-size c =
    let m = c.bytes.result.now in
    let n = length c.args.self.now.items in
    let size = c.size-size.ensures.exact ∙ ap (λ (v : TypedItems). item_size (item_type v.payload)) c.self.view_is in
    let all : length m ≡ c.size-size.result * n = c.bytes.ensures.all ∙ ap (λ w. w * n) (sym size) in
    omega (arith, part_inside c.size-size.result c.args.start c.args.count n (length m) c.requires all)

pub split_at-requires : goal.split_at-requires
split_at-requires c =
    let m = c.bytes.result.now in
    let n = length c.args.self.now.items in
    let size = c.size-size.ensures.exact ∙ ap (λ (v : TypedItems). item_size (item_type v.payload)) c.self.view_is in
    let all : length m ≡ c.size-size.result * n = c.bytes.ensures.all ∙ ap (λ w. w * n) (sym size) in
    omega (arith, part_inside c.size-size.result c.args.start c.args.count n (length m) c.requires all)

pub overflow_mul-size-2 : goal.overflow_mul-size-2
overflow_mul-size-2 c =
    let m = c.bytes.result.now in
    let n = length c.args.self.now.items in
    let size = c.size-size.ensures.exact ∙ ap (λ (v : TypedItems). item_size (item_type v.payload)) c.self.view_is in
    let all : length m ≡ c.size-size.result * n = c.bytes.ensures.all ∙ ap (λ w. w * n) (sym size) in
    omega (arith, part_inside c.size-size.result c.args.start c.args.count n (length m) c.requires all)

pub split_at-requires-2 : goal.split_at-requires-2
split_at-requires-2 c =
    let m = c.bytes.result.now in
    let n = length c.args.self.now.items in
    let size = c.size-size.ensures.exact ∙ ap (λ (v : TypedItems). item_size (item_type v.payload)) c.self.view_is in
    let all : length m ≡ c.size-size.result * n = c.bytes.ensures.all ∙ ap (λ w. w * n) (sym size) in
    omega (arith, part_inside c.size-size.result c.args.start c.args.count n (length m) c.requires all, c.split_at.ensures.back_len)

pub returns-clause-lie : goal.returns-clause-lie
returns-clause-lie c =
    let ss = item_type c.args.self.now.payload in
    let size : c.size-size.result ≡ item_size ss = c.size-size.ensures.exact ∙ ap (λ (v : TypedItems). item_size (item_type v.payload)) c.self.view_is in
    let part : c.split_at-2.result.0.now ≡ take (item_size ss * c.args.count) (drop (item_size ss * c.args.start) c.bytes.result.now) = rw (← size) (c.split_at-2.ensures.front ∙ ap (take (c.size-size.result * c.args.count)) c.split_at.ensures.back) in
    (lie_part ss c.bytes.result.now c.split_at-2.result.0.now (length c.args.self.now.items) c.args.start c.args.count c.bytes.ensures.lie c.requires part (c.split_at-2.ensures.front_len ∙ ap (λ w. w * c.args.count) size)).lie

pub returns-clause-items : goal.returns-clause-items
returns-clause-items c =
    let ss = item_type c.args.self.now.payload in
    let size : c.size-size.result ≡ item_size ss = c.size-size.ensures.exact ∙ ap (λ (v : TypedItems). item_size (item_type v.payload)) c.self.view_is in
    let part : c.split_at-2.result.0.now ≡ take (item_size ss * c.args.count) (drop (item_size ss * c.args.start) c.bytes.result.now) = rw (← size) (c.split_at-2.ensures.front ∙ ap (take (c.size-size.result * c.args.count)) c.split_at.ensures.back) in
    (lie_part ss c.bytes.result.now c.split_at-2.result.0.now (length c.args.self.now.items) c.args.start c.args.count c.bytes.ensures.lie c.requires part (c.split_at-2.ensures.front_len ∙ ap (λ w. w * c.args.count) size)).is
    ∙ ap (λ xs. take c.args.count (drop c.args.start xs)) c.bytes.ensures.items
