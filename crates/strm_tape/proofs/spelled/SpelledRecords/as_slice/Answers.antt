use Rattle.std.proofs.Common.{sym}
use Rattle.strm_tape.proofs.SpelledLemmas.{seen}
use Rattle.strm_tape.proofs.spelled.SpelledRecords.as_slice.Goals as goal

pub returns : goal.returns
returns c = let s = c.self.inside in sym (seen s.payload s.count s.bytes c.as_slice-bytes.result.now c.args.self.now c.are_bytes.ensures c.as_slice-bytes.ensures c.self.invariant c.self.view_is).are
