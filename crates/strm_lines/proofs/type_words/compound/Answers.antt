use Rattle.std.proofs.Common.{◌∙◌, Some, sym, ap}
use Rattle.strm_lines.specs.Reading.{type_front}
use Rattle.strm_lines.proofs.TypeWordLemmas.{compound_made}
use Rattle.strm_lines.proofs.type_words.compound.Goals as goal

pub returns : goal.returns
returns c =
    let word = c.args.word.now in
    let rest = c.in_ok-rest.rest.now in
    let read = ap (λ ns. Some (ns, rest)) c.as_slice.ensures.exact ∙ c.in_ok-rest.ensures ∙ ap (λ ns. type_front 16 ns word) c.new-words.ensures in
    compound_made word rest c.as_slice.result.now c.new.result read (sym c.is_empty.ensures ∙ c.if-not-is_empty.false) c.new.ensures.some c.new.ensures.value
