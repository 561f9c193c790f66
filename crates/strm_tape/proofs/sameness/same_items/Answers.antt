use Rattle.std.proofs.Common.{◌≡◌, ◌++◌, length, ap, ◌∙◌, arith}
use Rattle.strm_codes.specs.Layout.{item_type}
use Rattle.strm_tape.specs.Spelling.{region_bytes}
use Rattle.strm_tape.proofs.SameLemmas.{same_regions}
use Rattle.strm_tape.proofs.sameness.same_items.Goals as goal

pub returns : goal.returns
returns c =
    let a = c.args.a.now in
    let b = c.args.b.now in
    let counts : length a.items ≡ length b.items = omega (arith, c.if-len.false, c.len.ensures.exact, c.len-2.ensures.exact) in
    rw c.eq.ensures
    (same_regions a.payload b.payload a.items b.items c.as_slice.result.now c.as_slice-2.result.now c.requires c.sound.ensures c.sound-2.ensures counts
    (c.as_slice.ensures.value ∙ c.in_ok-put_items.ensures ∙ ap (λ l. l ++ region_bytes (item_type a.payload) a.items) c.new-one.ensures.items)
    (c.as_slice-2.ensures.value ∙ c.in_ok-put_items-2.ensures ∙ ap (λ l. l ++ region_bytes (item_type b.payload) b.items) c.new-other.ensures.items))
