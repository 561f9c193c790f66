use Rattle.std.proofs.Common.{map, sym, ap, ◌∙◌, string_bytes, arith}
use Rattle.strm_tape_program.specs.Modes.{word_of_mode}
use Rattle.strm_tape_program.proofs.ModeLemmas.{one_word, word_read, word_is_read}
use Rattle.strm_tape_program.proofs.modes.mode_of.Goals as goal

pub returns-clause-some : goal.returns-clause-some
returns-clause-some c = λ mode.
    let word = c.index-words-0.result in
    let items = c.as_slice-words.ensures.value in
    let one = one_word (λ w. string_bytes w) c.as_slice-words.result.now word (word_of_mode mode) (omega (arith, c.if-words-ne1.false)) c.index-words-0.is in
    let is = c.as_bytes.ensures.value in (
      (λ e. ap (λ ws. map (λ w. string_bytes w) ws) (sym items) ∙ one.0 (sym is ∙ word_read _ mode (sym c.mode_of_word.ensures ∙ e))),
      (λ e. c.mode_of_word.ensures ∙ word_is_read _ mode (is ∙ one.1 (ap (λ ws. map (λ w. string_bytes w) ws) items ∙ e))),
    )
