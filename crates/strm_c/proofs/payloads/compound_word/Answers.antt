-- The word of a compound is read as it was written.
use Rattle.std.proofs.Common.{◌<◌, ◌≤◌, length, Some, ap, ◌∙◌, arith}
use Rattle.strm_codes.specs.declared.payloads.Payload.TheVariants as form
use Rattle.strm_c.specs.Payloads.{nodes_number, payload_at}
use Rattle.strm_c.proofs.WordLemmas.{word_of_number, compound_again}
use Rattle.strm_c.proofs.payloads.compound_word.Goals as goal

pub returns-clause-inverse : goal.returns-clause-inverse
returns-clause-inverse c few =
    let words = c.as_slice-words.result.now in
    let number = c.nodes_number-number in
    let small : nodes_number words < 72057594037927936 = omega (arith, number.ensures.most, number.ensures.exact) in
    let short : length words ≤ 7 = omega (arith, few, ap length c.as_slice-words.ensures.exact) in
    ap (λ n. payload_at (word_of_number n)) number.ensures.exact
    ∙ compound_again words c.as_slice-words.ensures.spelled short small
    ∙ ap (λ ws. Some (form.Compound ws)) c.as_slice-words.ensures.exact
