use Rattle.std.proofs.Common.{◌≡◌, arith, ◌+◌, ◌∙◌, sym, refl}
use Rattle.strm_memory.proofs.LimitLemmas.{vectors_end}
use Rattle.strm_memory.proofs.limits.blend_front.Goals as goal

pub returns : goal.returns
returns c =
    let last = c.blend_vectors-done-3.result in
    let a : c.args.from + 0 ≡ c.args.from = omega arith in
    let b : c.args.to + 0 ≡ c.args.to = omega arith in
    sym (vectors_end c.args.limits.now c.args.source.now c.blend_vectors-done-3.new.destination c.args.len last (c.args.from + last) (c.args.to + last) (omega (arith, c.blend_vectors-done-3.ensures.few)))
    ∙ c.blend_vectors-done-3.ensures.rest
    ∙ c.blend_vectors-done-2.ensures.rest
    ∙ c.blend_vectors-done.ensures.rest
    ∙ rw (a, b) refl
