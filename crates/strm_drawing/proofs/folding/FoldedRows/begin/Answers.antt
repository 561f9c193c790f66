use Rattle.std.proofs.Common.{ap, ◌∙◌, ◌≡◌, ◌∷◌, ◌++◌, []}
use Rattle.strm_drawing.specs.declared.folding.Block.{Block}
use Rattle.strm_drawing.proofs.FoldLemmas.{begun}
use Rattle.strm_drawing.proofs.folding.FoldedRows.begin.Goals as goal

pub returns-clause-rows : goal.returns-clause-rows
returns-clause-rows c =
    let self = c.args.self.now in
    let front = c.in_ok-rows.ensures ∙ c.split_at.ensures.front ∙ ap (λ xs. Rattle.std.proofs.Common.take c.args.count xs) c.as_slice.ensures.value in
    let rest = c.in_ok-rest.ensures ∙ c.split_at.ensures.back ∙ ap (λ xs. Rattle.std.proofs.Common.drop c.args.count xs) c.as_slice.ensures.value in
    begun self.done.items c.push_reserved.new.self.items self.last c.replace.new.dest self.tail.items c.in_ok-rest.rest.items c.args.count
    (c.push_reserved.ensures.items ∙ ap (λ xs. xs ++ c.replace.result ∷ []) c.reserve.ensures.items ∙ ap (λ b. self.done.items ++ b ∷ []) c.replace.ensures.value)
    (ap (λ (b : Block). b.times) c.replace.ensures.after)
    (ap (λ (b : Block). b.rows.items) c.replace.ensures.after ∙ front)
    rest
