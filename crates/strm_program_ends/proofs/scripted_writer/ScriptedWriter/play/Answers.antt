use Rattle.std.proofs.Common.{◌≡◌}
use Rattle.std.proofs.lemmas.List.Elements.{All-push}
use Rattle.strm_buffers.specs.Said.{WriterSaid}
use Rattle.strm_buffers.proofs.EndLemmas.{Fills-same}
use Rattle.strm_program_ends.proofs.scripted_writer.ScriptedWriter.play.Goals as goal

pub returns-in_err-reserve-clause-fills : goal.returns-in_err-reserve-clause-fills
returns-in_err-reserve-clause-fills c = Fills-same c.args.window.now

-- what is held, and what is recorded, are of the payload of the turns
pub invariant_of-self-2 : goal.invariant_of-self-2
invariant_of-self-2 c =
    let old = c.args.self.now in
    record {
      typed = c.take_next-turn.ensures.typed;
      holding = c.in_ok-held.ensures.payload;
      recorded = rw (c.push_reserved.ensures.items, c.reserve.ensures.items) (All-push (λ (said : WriterSaid). said.payload ≡ old.payload) old.said.items _ old.recorded c.take_next-turn.ensures.payload);
    }
