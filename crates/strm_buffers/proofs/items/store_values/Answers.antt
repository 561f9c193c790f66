use Rattle.std.proofs.Common.{◌≡◌, ◌*◌, length, map, sym, ap, ◌∙◌, arith}
use Rattle.std.proofs.lemmas.List.{length-map, length-replicate}
use Rattle.strm_codes.specs.Layout.{item_type}
use Rattle.strm_codes.specs.ItemTypes.{item_size}
use Rattle.strm_memory.specs.Items.{stored}
use Rattle.strm_buffers.proofs.ListingLemmas.{are_stored}
use Rattle.strm_buffers.proofs.items.store_values.Goals as goal

pub returns : goal.returns
returns g c =
    let ss = item_type g.T.Payloaded.payload in
    let xs = map g.T.Payloaded.item c.args.values.now in
    let zeros = c.append_zeros.new.bytes in
    let size : c.size.result ≡ item_size ss = c.size.ensures.exact ∙ ap (λ p. item_size (item_type p)) c.payload.ensures in
    let all : length zeros.items ≡ item_size ss * length xs =
    ap length c.in_ok-append_zeros.ensures.ok ∙ length-replicate (c.size.result * length c.args.values.now) 0 ∙ ap (λ w. w * length c.args.values.now) size ∙ ap (λ n. item_size ss * n) (sym (length-map c.args.values.now g.T.Payloaded.item)) in
    are_stored ss zeros.items c.put_values.new.bytes zeros.len xs all (omega (arith, zeros.ok.0)) c.put_values.ensures.fit
    (c.put_values.ensures.stored ∙ ap (λ b. stored ss b xs) c.as_mut_slice.ensures.value)
