use Rattle.std.proofs.Common.{◌≡◌, ◌∷◌, [], map, sym, ap, ◌∙◌, string_bytes, arith}
use Rattle.std.proofs.lemmas.Bool.{not-false}
use Rattle.std.proofs.lemmas.Slice.Eq.{bytes_eq-Decides}
use Rattle.strm_session.proofs.ServingLemmas.{three_words, numbers_found}
use Rattle.strm_session.proofs.serving.numbers.Goals as goal

pub returns : goal.returns
returns c =
    let words = c.as_slice-words.result.now in
    let a = c.as_bytes.result.now in
    let b = c.as_bytes-2.result.now in
    let d = c.as_bytes-3.result.now in
    let all = three_words (λ w. string_bytes w) words c.index-words-0.result c.index-words-1.result c.index-words-2.result (omega (arith, c.if-words-ne3.false)) c.index-words-0.is c.index-words-1.is c.index-words-2.is in
    let are : map (λ w. string_bytes w) c.args.words.now.items ≡ a ∷ b ∷ d ∷ [] = ap (λ ws. map (λ w. string_bytes w) ws) (sym c.as_slice-words.ensures.value) ∙ rw (c.as_bytes.ensures.value, c.as_bytes-2.ensures.value, c.as_bytes-3.ensures.value) all in
    let same = bytes_eq-Decides a c.as_slice.result.now in
    numbers_found _ a b d are (same.0 (not-false _ (sym c.if-ne.ensures)) ∙ c.as_slice.ensures) c.in_ok-count.count c.in_ok-seed.seed c.in_ok-count.ensures c.in_ok-seed.ensures
