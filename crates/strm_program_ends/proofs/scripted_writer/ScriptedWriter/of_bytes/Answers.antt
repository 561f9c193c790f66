use Rattle.strm_program_ends.proofs.ScriptLemmas.{bytes_typed}
use Rattle.strm_program_ends.proofs.scripted_writer.ScriptedWriter.of_bytes.Goals as goal

pub new-requires : goal.new-requires
new-requires c = rw c.in_ok-turns.ensures (bytes_typed (λ t. t.0.now) (λ t. t.1) c.args.turns.now)
