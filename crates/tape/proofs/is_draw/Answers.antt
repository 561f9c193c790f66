use Rattle.std.proofs.Common.{◌≡◌, map, sym, ap, ◌∙◌, string_bytes, codes, arith}
use Rattle.std.proofs.lemmas.Slice.Eq.{bytes_eq-Decides}
use Rattle.strm_tape_program.proofs.ModeLemmas.{one_word}
use Rattle.tape.proofs.is_draw.Goals as goal

pub returns-then-words-eq1 : goal.returns-then-words-eq1
returns-then-words-eq1 c =
    let word = c.index-words-0.result in
    let run = codes "draw" in
    let found : string_bytes word ≡ c.as_bytes.result.now = sym c.as_bytes.ensures.value in
    let one = one_word (λ w. string_bytes w) c.as_slice-words.result.now word run (omega (arith, c.if-words-eq1.true)) c.index-words-0.is in
    let same = bytes_eq-Decides c.as_bytes.result.now c.as_slice.result.now in
    let items = c.as_slice-words.ensures.value in (
      (λ t. ap (λ ws. map (λ w. string_bytes w) ws) (sym items) ∙ one.0 (found ∙ same.0 (sym c.eq.ensures ∙ t) ∙ c.as_slice.ensures)),
      (λ e. c.eq.ensures ∙ same.1 (sym found ∙ one.1 (ap (λ ws. map (λ w. string_bytes w) ws) items ∙ e) ∙ sym c.as_slice.ensures)),
    )
