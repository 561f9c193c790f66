use Rattle.std.proofs.Common.{◌∙◌}
use Rattle.strm_lines.specs.Lines.{lines_of}
use Rattle.strm_lines.proofs.LineLemmas.{one_spelling, runs_out_of_memory}
use Rattle.strm_lines.proofs.parsing.parse.Goals as goal

pub returns-in-Ok-clause-complete : goal.returns-in-Ok-clause-complete
returns-in-Ok-clause-complete c = λ steps f h.
    c.from_vec.ensures ∙ one_spelling (lines_of c.args.bytes.now) _ steps c.in-Ok.ensures.ok f

pub returns-in-Err-clause-complete : goal.returns-in-Err-clause-complete
returns-in-Err-clause-complete c = λ steps f h.
    runs_out_of_memory (lines_of c.args.bytes.now) steps f c.parse_onto.result c.in-Err.error c.in-Err.is c.parse_onto.ensures.too_long.0 c.parse_onto.ensures.bad_line h
