use Rattle.std.proofs.Common.{◌≡◌, ◌*◌, ◌++◌, length, ap, sym, ◌∙◌, arith}
use Rattle.std.proofs.lemmas.Result.{on_ok_weaker}
use Rattle.strm_codes.specs.Layout.{item_type}
use Rattle.strm_codes.specs.ItemTypes.{item_size}
use Rattle.strm_codes.specs.declared.payloads.Payload.TheVariants.{One}
use Rattle.strm_codes.specs.declared.scalars.Scalar.TheVariants.{U8}
use Rattle.strm_memory.specs.Items.{byte_items}
use Rattle.strm_buffers.specs.Listing.{items_in}
use Rattle.strm_buffers.specs.Windows.{Lent}
use Rattle.strm_program_ends.proofs.FedLemmas.{all_bytes}
use Rattle.strm_program_ends.proofs.feeds.Feeds.mark.Goals as goal

pub returns-then-is_byte-clause-marked : goal.returns-then-is_byte-clause-marked
returns-then-is_byte-clause-marked c =
    let bytes = c.bytes_of-bytes.result.now in
    let is : c.args.self.now.payload ≡ One U8 = sym (ap (λ v. v.payload) c.self.view_is) ∙ c.is_byte.ensures c.if-is_byte.true in
    let size : length bytes ≡ c.args.count = c.bytes_of-bytes.ensures.all ∙ ap (λ p. item_size (item_type p) * c.args.count) is ∙ omega arith in
    let items = ap (λ p. items_in (item_type p) bytes 0 c.args.count) (sym is) ∙ c.bytes_of-bytes.ensures.items in
    on_ok_weaker c.write.result (λ marked. ap (λ (w : Lent). w.marked) marked ∙ ap (λ xs. xs ++ byte_items bytes) c.requires.nothing_marked ∙ sym (all_bytes bytes c.args.count size) ∙ items) c.write.ensures.ok
