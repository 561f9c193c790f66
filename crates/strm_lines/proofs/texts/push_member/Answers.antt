use Rattle.std.proofs.Common.{[], ◌∷◌, decimal, sym, append_assoc}
use Rattle.std.proofs.lemmas.Result.{on_err_weaker}
use Rattle.strm_codes.specs.Codes.{word_of}
use Rattle.strm_lines.specs.Text.{hex_word}
use Rattle.strm_lines.proofs.PartLemmas.{part_same}
use Rattle.strm_lines.proofs.texts.push_member.Goals as goal

pub returns-clause-err : goal.returns-clause-err
returns-clause-err c =
    let word = hex_word (word_of c.args.member.now.code) in
    on_err_weaker c.push_parts.result
    (part_same _ _ _ _ (sym (append_assoc (decimal c.args.member.now.handle) (32 ∷ word) (10 ∷ []))))
    (rw (c.as_bytes.ensures.value, c.format.ensures.text, c.as_slice.ensures, c.as_slice-2.ensures, c.hex_line-code.ensures, c.encode.ensures) at c.push_parts.ensures.err)
