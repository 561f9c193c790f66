use Rattle.std.proofs.Common.{length}
use Rattle.strm_c.proofs.payloads.+nodes_number.Given as goal

abbrev pub decreases-nodes_number : goal.decreases-nodes_number
decreases-nodes_number l = length l.words.now
