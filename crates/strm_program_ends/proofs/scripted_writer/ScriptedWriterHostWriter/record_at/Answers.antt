use Rattle.std.proofs.Common.{refl, length, ap, ◌∙◌}
use Rattle.std.proofs.lemmas.Option.{slice_get_read}
use Rattle.std.proofs.lemmas.Result.{IfOk-weaker}
use Rattle.strm_buffers.specs.Said.{WriterSaid}
use Rattle.strm_program_ends.proofs.scripted_writer.ScriptedWriterHostWriter.record_at.Goals as goal

pub returns-clause-exact : goal.returns-clause-exact
returns-clause-exact c =
    let said = c.args.self.now.said.items in
    IfOk-weaker c.copy.result _ _ (λ copy e. rw e (slice_get_read said (length said) c.args.index c.index.result.now refl c.requires c.index.ensures)) c.copy.ensures

pub returns-clause-payload : goal.returns-clause-payload
returns-clause-payload c =
    let s = c.args.self.now in
    IfOk-weaker c.copy.result _ _ (λ copy e. ap (λ (said : WriterSaid). said.payload) (e ∙ c.index.ensures) ∙ s.recorded c.args.index c.index.result.now c.requires) c.copy.ensures
