use Rattle.strm_tape.proofs.SpelledLemmas.{seen}
use Rattle.strm_tape.proofs.spelled.SpelledRecords.sound.Goals as goal

pub returns : goal.returns
returns c = let s = c.self.inside in (seen s.payload s.count s.bytes c.as_slice.result.now c.args.self.now c.are_bytes.ensures c.as_slice.ensures c.self.invariant c.self.view_is).each
