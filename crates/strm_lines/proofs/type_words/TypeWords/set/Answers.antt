use Rattle.std.proofs.Common.{arith, slice_set, ap, ◌∙◌}
use Rattle.std.proofs.Math.Seq.{take-set-lt}
use Rattle.strm_lines.proofs.type_words.TypeWords.set.Goals as goal

pub returns-then-place-self : goal.returns-then-place-self
returns-then-place-self c =
    take-set-lt c.self.inside.len c.self.inside.nodes c.args.place c.args.node (omega (arith, c.if-place-self.true))
    ∙ ap (λ ws. slice_set ws c.args.place c.args.node) c.self.view_is
