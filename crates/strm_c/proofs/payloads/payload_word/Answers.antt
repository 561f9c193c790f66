-- The word of a tuple is read as it was written.
use Rattle.std.proofs.Common.{◌<◌, ◌≤◌, length, Some, sym, ap, subst, ◌∙◌, ◌+◌, arith}
use Rattle.strm_codes.specs.declared.payloads.Payload.TheVariants as form
use Rattle.strm_c.specs.Payloads.{HasWord, fields_word, payload_at, tuple_bit}
use Rattle.strm_c.proofs.WordLemmas.{tuple_again}
use Rattle.strm_c.proofs.payloads.payload_word.Goals as goal

pub returns-in-Tuple-clause-inverse : goal.returns-in-Tuple-clause-inverse
returns-in-Tuple-clause-inverse c h =
    let fields = c.as_slice.result.now in
    let one : 1 ≤ length c.in-Tuple.shape = subst HasWord c.in-Tuple.is h in
    let some : 1 ≤ length fields = omega (arith, one, ap length c.as_slice.ensures.exact) in
    let small : fields_word fields < tuple_bit = omega (arith, c.fields_word.ensures.most, c.fields_word.ensures.exact) in
    ap (λ n. payload_at (tuple_bit + n)) c.fields_word.ensures.exact
    ∙ tuple_again fields some c.as_slice.ensures.most small
    ∙ ap (λ xs. Some (form.Tuple xs)) c.as_slice.ensures.exact
    ∙ ap Some (sym c.in-Tuple.is)
