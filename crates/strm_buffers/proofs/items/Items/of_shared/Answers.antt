use Rattle.std.proofs.Common.{◌≡◌, length, sym, subst, ◌∙◌, arith}
use Rattle.std.proofs.lemmas.List.{length-map}
use Rattle.std.proofs.Common.{pos, [], ◌∷◌}
use Rattle.strm_codes.specs.declared.payloads.Payload.TheVariants.{One}
use Rattle.strm_codes.specs.declared.scalars.Scalar.TheVariants.{U8}
use Rattle.strm_memory.specs.Bytes.{IsBytes}
use Rattle.strm_memory.specs.Items.{byte_items}
use Rattle.strm_buffers.proofs.ListingLemmas.{bytes_stored, kept_stored}
use Rattle.strm_buffers.proofs.items.Items.of_shared.Goals as goal

pub invariant_of-result : goal.invariant_of-result
invariant_of-result c =
    let stored = bytes_stored c.args.bytes (subst IsBytes c.as_slice.ensures c.are_bytes.ensures) in
    let count : c.len-len.result ≡ length (byte_items c.args.bytes) = c.len-len.ensures.value ∙ sym (length-map c.args.bytes (λ b. pos b ∷ [])) in
    rw c.of_shared.ensures (kept_stored (One U8) c.args.bytes (byte_items c.args.bytes) c.len-len.result stored count (omega (arith, c.len-len.ensures.value, c.requires))).0

pub returns-clause-items : goal.returns-clause-items
returns-clause-items c =
    let stored = bytes_stored c.args.bytes (subst IsBytes c.as_slice.ensures c.are_bytes.ensures) in
    let count : c.len-len.result ≡ length (byte_items c.args.bytes) = c.len-len.ensures.value ∙ sym (length-map c.args.bytes (λ b. pos b ∷ [])) in
    rw c.of_shared.ensures (kept_stored (One U8) c.args.bytes (byte_items c.args.bytes) c.len-len.result stored count (omega (arith, c.len-len.ensures.value, c.requires))).1
