use Rattle.std.proofs.Common.{◌≡◌, ◌+◌, refl, ap, ◌∙◌, length, get_or, arith}
use Rattle.std.proofs.lemmas.List.FromFn.{get_or-map-range_with_len, length-map-range_with_len}
use Rattle.strm_machine.specs.Moments.{received}
use Rattle.strm_drawing.proofs.running.count_before.Goals as goal

pub returns : goal.returns
returns c = λ state first count e.
    let len : length c.args.before.now ≡ count = ap length e ∙ length-map-range_with_len (λ s. received s state) first count in
    let inside = c.requires in
    ap (λ xs. get_or xs c.args.k 0) (c.as_slice.ensures ∙ e)
    ∙ get_or-map-range_with_len (λ s. received s state) first count c.args.k (first + c.args.k) 0 (omega (arith, inside, len)) refl
