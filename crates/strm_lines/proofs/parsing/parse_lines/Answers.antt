use Rattle.std.proofs.Common.{◌≡◌, ◌++◌, length, map, refl, sym, ◌∙◌, ap, subst, arith}
use Rattle.std.specs.Option.{option_to_list}
use Rattle.std.proofs.lemmas.Bool.{eqb-true}
use Rattle.strm_lines.specs.Grammar.{spelling}
use Rattle.strm_lines.specs.Lines.{lines_of, IsFirstBadLine}
use Rattle.strm_lines.specs.Reading.{step_of}
use Rattle.strm_lines.proofs.LineLemmas.{kept_line, kept_one, unkept_line, all_spelled}
use Rattle.strm_lines.proofs.parsing.parse_lines.Goals as goal

pub returns-clause-ok : goal.returns-clause-ok
returns-clause-ok g c = all_spelled (lines_of c.args.bytes.now) (g.L.TakesSteps.steps c.loop-rest.steps) c.loop-rest.rest.now c.loop-rest.invariant.lines c.loop-rest.invariant.have (eqb-true (length c.loop-rest.rest.now) 0 (sym c.is_empty.ensures ∙ c.loop-rest-test.false))

pub returns-then-not-keep_line-clause-bad_line : goal.returns-then-not-keep_line-clause-bad_line
returns-then-not-keep_line-clause-bad_line g c = λ k e.
    let old = g.L.TakesSteps.steps c.loop-rest.steps in
    let lines = c.loop-rest.invariant.lines ∙ ap (λ ls. map spelling old ++ ls) c.first_line.ensures.lines in
    let bad = unkept_line (lines_of c.args.bytes.now) (lines_of c.first_line.result.1.now) c.first_line.result.0.now old _ refl (sym c.keep_line.ensures.found ∙ c.if-not-keep_line.true) lines c.loop-rest.invariant.have in
    let line : c.loop-rest.line ≡ k = cc in
    subst (IsFirstBadLine (lines_of c.args.bytes.now)) (sym c.loop-rest.invariant.number ∙ line) bad

pub loop-rest-preserved : goal.loop-rest-preserved
loop-rest-preserved g c =
    let old = g.L.TakesSteps.steps c.loop-rest.steps in
    let lines = c.loop-rest.invariant.lines ∙ ap (λ ls. map spelling old ++ ls) c.first_line.ensures.lines in
    let some = sym c.keep_line.ensures.found ∙ c.if-not-keep_line.false in
    let items = c.keep_line.ensures.items ∙ ap (λ steps. steps ++ option_to_list (step_of c.first_line.result.0.now)) c.make_room.ensures.same in
    let more = kept_line (lines_of c.args.bytes.now) (lines_of c.first_line.result.1.now) c.first_line.result.0.now old (g.L.TakesSteps.steps c.keep_line.new.steps) _ refl some items lines c.loop-rest.invariant.have in
    record { lines = more.0; have = more.1; number = omega (arith, c.loop-rest.invariant.number, kept_one old (g.L.TakesSteps.steps c.keep_line.new.steps) _ some items) }
