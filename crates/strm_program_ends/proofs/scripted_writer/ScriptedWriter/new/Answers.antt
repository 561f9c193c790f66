use Rattle.std.proofs.Common.{sym, ◌∙◌}
use Rattle.std.proofs.lemmas.List.Elements.{All-nil}
use Rattle.strm_program_ends.proofs.scripted_writer.ScriptedWriter.new.Goals as goal

-- the turns are of the payload of what is held
pub invariant_of-result : goal.invariant_of-result
invariant_of-result c = record {
  typed = λ k d within. c.requires k d within ∙ sym c.new-held.ensures.payload ∙ sym c.payload-payload.ensures;
  holding = sym c.payload-payload.ensures;
  recorded = rw c.new.ensures.items (All-nil _);
}
