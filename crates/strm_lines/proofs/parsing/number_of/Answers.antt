use Rattle.std.proofs.Common.{sym, ap, ◌∙◌}
use Rattle.strm_lines.specs.Reading.{decimal_number}
use Rattle.strm_lines.proofs.NumberLemmas.{number_sound, number_complete}
use Rattle.strm_lines.proofs.parsing.number_of.Goals as goal

pub returns : goal.returns
returns c = λ n. (
  (λ e. let found = number_sound c.args.word.now n (sym c.number.ensures ∙ e) in (found.1, sym found.0)),
  (λ h. c.number.ensures ∙ ap decimal_number h.1 ∙ number_complete n h.0),
)
