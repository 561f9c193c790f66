use Rattle.std.proofs.Common.{◌∷◌, length, arith, sym, ap, ◌∙◌, length-append}
use Rattle.std.proofs.lemmas.List.{take_all, drop_all}
use Rattle.strm_lines.proofs.CutLemmas.{cut_sound}
use Rattle.strm_lines.proofs.LineLemmas.{lines-cut, lines-end}
use Rattle.strm_lines.proofs.parsing.first_line.Goals as goal

pub returns-in-Some-clause-lines : goal.returns-in-Some-clause-lines
returns-in-Some-clause-lines c =
    let parts = c.in-Some.parts in
    lines-cut c.args.bytes.now (parts.0.now, parts.1.now) (sym c.in-Some.ensures)

pub returns-in-Some-clause-less : goal.returns-in-Some-clause-less
returns-in-Some-clause-less c =
    let parts = c.in-Some.parts in
    let whole = cut_sound 10 c.args.bytes.now (parts.0.now, parts.1.now) (sym c.in-Some.ensures) in
    omega (arith, ap length whole, length-append parts.0.now (10 ∷ parts.1.now))

pub returns-in-None-clause-lines : goal.returns-in-None-clause-lines
returns-in-None-clause-lines c =
    let bytes = c.args.bytes.now in
    let all = c.split_at.ensures.front ∙ take_all (length bytes) bytes (omega arith) in
    let none = c.split_at.ensures.back ∙ drop_all (length bytes) bytes (omega arith) in
    rw all (lines-end bytes c.split_at.result.1.now c.requires none (sym c.in-None.ensures))
