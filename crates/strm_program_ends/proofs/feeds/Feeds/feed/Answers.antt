use Rattle.std.proofs.Common.{◌≡◌, ℕ, ◌+◌, ◌*◌, List, [], ◌∷◌, ◌++◌, length, take, drop, refl, ap, ◌∙◌, arith, length-append}
use Rattle.std.proofs.Math.Seq.{take-append_seam}
use Rattle.strm_codes.specs.Layout.{item_type}
use Rattle.strm_codes.specs.ItemTypes.{item_size}
use Rattle.strm_program_ends.specs.Fed.{more_fed, fed_kept}
use Rattle.strm_program_ends.specs.declared.feeds.Feed.{Feed}
use Rattle.strm_program_ends.proofs.FedLemmas.{AreFed, FedMore, fed_more, feed_of}
use Rattle.strm_program_ends.proofs.feeds.Feeds.feed.Goals as goal

-- without what was put behind them
cut_back : (xs more : List ℕ) (n : ℕ) → n ≡ length xs → take n (xs ++ more) ≡ xs
cut_back xs more n e = ap (λ k. take k (xs ++ more)) e ∙ take-append_seam xs more

pub invariant_of-self-in-Err : goal.invariant_of-self-in-Err
invariant_of-self-in-Err c =
    let s = c.self.inside in
    let rest : c.truncate.new.self.items ≡ s.rest.items = rw (c.truncate.ensures.items, c.in_ok-append.ensures.ok) (cut_back s.rest.items c.split_at.result.1.now c.len-rest_before.result (omega (arith, c.len-rest_before.ensures, s.rest.ok.0))) in
    rw (c.in-Err.ensures.err, rest, c.reserve.ensures.items) c.self.invariant

pub returns-in-Err-clause-err : goal.returns-in-Err-clause-err
returns-in-Err-clause-err c =
    let s = c.self.inside in
    let rest : c.truncate.new.self.items ≡ s.rest.items = rw (c.truncate.ensures.items, c.in_ok-append.ensures.ok) (cut_back s.rest.items c.split_at.result.1.now c.len-rest_before.result (omega (arith, c.len-rest_before.ensures, s.rest.ok.0))) in
    rw (c.in-Err.ensures.err, rest, c.reserve.ensures.items) c.self.view_is

pub invariant_of-self-2 : goal.invariant_of-self-2
invariant_of-self-2 c =
    let s = c.self.inside in
    let given = c.args.bytes.now in
    let n = c.count_items-count.result in
    let k = c.size.result * n in
    let counted = c.count_items-count.ensures in
    let e : k ≡ item_size (item_type s.payload) * n = ap (λ w. w * n) c.size.ensures.exact in
    let fed : AreFed s.payload given n k = record { lie = counted.lie; fit = counted.fit; size = e; within = omega (arith, e, counted.within); few = counted.few } in
    let p : FedMore c.args.self.now c.args.records given s.payload (s.bytes.items ++ take k given) (s.len + n) (s.rest.items ++ drop k given) (s.feeds.items ++ feed_of c.args.records (take k given) (drop k given) ∷ []) =
    fed_more s.payload s.bytes.items s.rest.items s.len s.feeds.items c.args.self.now c.self.invariant c.self.view_is given n k c.args.records fed in
    let b : c.extend_from_slice.new.self.items ≡ s.bytes.items ++ take k given = c.in-Ok.ensures.ok ∙ ap (λ l. s.bytes.items ++ l) c.split_at.ensures.front in
    let r : c.append.new.bytes.items ≡ s.rest.items ++ drop k given = c.in_ok-append.ensures.ok ∙ ap (λ l. s.rest.items ++ l) c.split_at.ensures.back in
    let feed : feed_of c.args.records c.split_at.result.0.now c.split_at.result.1.now ≡ feed_of c.args.records (take k given) (drop k given) = rw (c.split_at.ensures.front, c.split_at.ensures.back) refl in
    let f : c.push_reserved.new.self.items ≡ s.feeds.items ++ feed_of c.args.records (take k given) (drop k given) ∷ [] =
    c.push_reserved.ensures.items ∙ ap (λ l. l ++ feed_of c.args.records c.split_at.result.0.now c.split_at.result.1.now ∷ []) c.reserve.ensures.items ∙ ap (λ (x : Feed). s.feeds.items ++ x ∷ []) feed in
    rw (b, r, f) p.is_fed

pub returns-clause-ok : goal.returns-clause-ok
returns-clause-ok c =
    let s = c.self.inside in
    let given = c.args.bytes.now in
    let n = c.count_items-count.result in
    let k = c.size.result * n in
    let counted = c.count_items-count.ensures in
    let e : k ≡ item_size (item_type s.payload) * n = ap (λ w. w * n) c.size.ensures.exact in
    let fed : AreFed s.payload given n k = record { lie = counted.lie; fit = counted.fit; size = e; within = omega (arith, e, counted.within); few = counted.few } in
    let p : FedMore c.args.self.now c.args.records given s.payload (s.bytes.items ++ take k given) (s.len + n) (s.rest.items ++ drop k given) (s.feeds.items ++ feed_of c.args.records (take k given) (drop k given) ∷ []) =
    fed_more s.payload s.bytes.items s.rest.items s.len s.feeds.items c.args.self.now c.self.invariant c.self.view_is given n k c.args.records fed in
    let b : c.extend_from_slice.new.self.items ≡ s.bytes.items ++ take k given = c.in-Ok.ensures.ok ∙ ap (λ l. s.bytes.items ++ l) c.split_at.ensures.front in
    let r : c.append.new.bytes.items ≡ s.rest.items ++ drop k given = c.in_ok-append.ensures.ok ∙ ap (λ l. s.rest.items ++ l) c.split_at.ensures.back in
    let feed : feed_of c.args.records c.split_at.result.0.now c.split_at.result.1.now ≡ feed_of c.args.records (take k given) (drop k given) = rw (c.split_at.ensures.front, c.split_at.ensures.back) refl in
    let f : c.push_reserved.new.self.items ≡ s.feeds.items ++ feed_of c.args.records (take k given) (drop k given) ∷ [] =
    c.push_reserved.ensures.items ∙ ap (λ l. l ++ feed_of c.args.records c.split_at.result.0.now c.split_at.result.1.now ∷ []) c.reserve.ensures.items ∙ ap (λ (x : Feed). s.feeds.items ++ x ∷ []) feed in
    let is : fed_kept s.payload c.extend_from_slice.new.self.items (s.len + n) c.append.new.bytes.items c.push_reserved.new.self.items ≡ more_fed c.args.self.now c.args.records given = rw (b, r, f) p.is in
    is

-- as many items as there are bytes at most
pub overflow_add-self : goal.overflow_add-self
overflow_add-self c =
    let s = c.self.inside in
    let bytes = ap length c.in-Ok.ensures.ok in
    let rest = ap length c.in_ok-append.ensures.ok in
    omega (arith, c.self.invariant.counted, c.count_items-count.ensures.few, bytes, rest, length-append s.bytes.items c.split_at.result.0.now, length-append s.rest.items c.split_at.result.1.now, c.split_at.ensures.front_len, c.split_at.ensures.back_len, c.len-self-inside.ensures.value, c.append.new.bytes.ok, c.len-self-inside.ensures.bound, c.append.new.bytes.small)
