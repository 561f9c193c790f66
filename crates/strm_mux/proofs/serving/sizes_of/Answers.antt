use Rattle.std.proofs.Common.{◌≡◌, ◌<◌, length, map, get_or, [], string_bytes, sym, ap, ◌∙◌, arith}
use Rattle.std.proofs.lemmas.List.{length-map}
use Rattle.strm_mux.proofs.MuxServingLemmas.{item_at, sizes_read, first_read, second_read}
use Rattle.strm_mux.proofs.serving.sizes_of.Goals as goal

pub returns-in_err-write-clause-none : goal.returns-in_err-write-clause-none
returns-in_err-write-clause-none c = λ _ s.
    let items = c.as_slice-words.result.now in
    let some : 0 < length items = omega (arith, c.if-words-ne2.false) in
    let same = ap (λ ws. map (λ w. string_bytes w) ws) (sym c.as_slice-words.ensures.value) in
    first_read _ _ (ap (λ ws. get_or ws 0 []) same ∙ item_at (λ w. string_bytes w) items 0 c.index-words-0.result some c.index-words-0.is) (sym c.size_of.ensures ∙ c.in_err-write.was) s

pub returns-in_err-read-clause-none : goal.returns-in_err-read-clause-none
returns-in_err-read-clause-none c = λ _ s.
    let items = c.as_slice-words.result.now in
    let some : 1 < length items = omega (arith, c.if-words-ne2.false) in
    let same = ap (λ ws. map (λ w. string_bytes w) ws) (sym c.as_slice-words.ensures.value) in
    second_read _ _ (ap (λ ws. get_or ws 1 []) same ∙ item_at (λ w. string_bytes w) items 1 c.index-words-1.result some c.index-words-1.is) (sym c.size_of-2.ensures ∙ c.in_err-read.was) s

pub returns-clause-some : goal.returns-clause-some
returns-clause-some c =
    let items = c.as_slice-words.result.now in
    let two : length items ≡ 2 = omega (arith, c.if-words-ne2.false) in
    let first : 0 < length items = omega (arith, two) in
    let second : 1 < length items = omega (arith, two) in
    let same = ap (λ ws. map (λ w. string_bytes w) ws) (sym c.as_slice-words.ensures.value) in
    sizes_read _ _ _ c.in_ok-write.write c.in_ok-read.read
    (ap length same ∙ length-map items (λ w. string_bytes w) ∙ two)
    (ap (λ ws. get_or ws 0 []) same ∙ item_at (λ w. string_bytes w) items 0 c.index-words-0.result first c.index-words-0.is)
    (ap (λ ws. get_or ws 1 []) same ∙ item_at (λ w. string_bytes w) items 1 c.index-words-1.result second c.index-words-1.is)
    (sym c.in_ok-write.was ∙ c.size_of.ensures) (sym c.in_ok-read.was ∙ c.size_of-2.ensures)
