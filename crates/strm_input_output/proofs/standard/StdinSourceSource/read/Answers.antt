use Rattle.std.proofs.Common.{arith}
use Rattle.strm_input_output.proofs.PortLemmas.{ends_handed}
use Rattle.strm_input_output.proofs.standard.StdinSourceSource.read.Goals as goal

pub returns-clause-end : goal.returns-clause-end
returns-clause-end g c =
    ends_handed _ _ c.read.result c.counted.result c.read.new.buf (omega (arith, c.requires, c.read.auto.buf)) c.read.ensures.bound c.read.ensures.bytes c.counted.ensures.given
