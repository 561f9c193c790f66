use Rattle.std.proofs.Common.{◌≡◌, ℕ, zero, suc, ◌<◌, false, length, vec_len, sym, subst, ap, ◌∙◌, arith}
use Rattle.std.specs.Prelude.{◌==◌, IfOk}
use Rattle.strm_buffers.proofs.EndLemmas.{Fills-same}
use Rattle.strm_program_ends.specs.declared.scripted_writer.WriterTurn.{WriterTurn}
use Rattle.strm_program_ends.proofs.scripted_writer.ScriptedWriter.mark_next.Goals as goal

pub returns-then-is_empty-clause-fills : goal.returns-then-is_empty-clause-fills
returns-then-is_empty-clause-fills c = Fills-same c.args.window.now

some_there : (n : ℕ) → (n == 0) ≡ false → 0 < n
some_there zero e = cc
some_there (suc n) e = omega arith

-- what is held is of the payload of the turn
pub returns-clause-payload : goal.returns-clause-payload
returns-clause-payload c =
    let some = some_there (vec_len c.args.self.now.turns) (sym c.is_empty.ensures ∙ c.if-is_empty.false) in
    let there : 0 < length c.args.self.now.turns.items = omega (arith, some, c.args.self.now.turns.ok.0) in
    let same : c.index.result.now.items.payload ≡ c.args.self.now.payload = ap (λ (turn : WriterTurn). turn.items.payload) c.index.ensures ∙ c.args.self.now.typed 0 c.index.result.now there in
    subst (λ payload. IfOk c.rest_of.result (λ held. held.payload ≡ payload)) same c.rest_of.ensures.payload
