use Rattle.std.proofs.Common.{sym, ◌∙◌, arith}
use Rattle.std.specs.List.{list_all}
use Rattle.strm_lines.specs.Grammar.{line_of}
use Rattle.strm_tape.specs.Spelling.{is_first_argument}
use Rattle.strm_tape.proofs.VersionLemmas.{all_more, all_over}
use Rattle.strm_tape.proofs.versions.are_first_steps.Goals as goal

pub loop-k-preserved : goal.loop-k-preserved
loop-k-preserved c =
    all_more (λ step. list_all is_first_argument (line_of step).arguments) c.args.steps.now c.loop-k.k c.index-steps-k.result (omega (arith, c.loop-k-test.true)) c.loop-k.invariant
    (sym (rw c.index-steps-k.is at c.is_first_step.ensures) ∙ c.if-not-is_first_step.false)

pub returns : goal.returns
returns c = all_over (λ step. list_all is_first_argument (line_of step).arguments) c.args.steps.now c.loop-k.k (omega (arith, c.loop-k-test.false)) c.loop-k.invariant
