use Rattle.std.proofs.Common.{rules}
use Rattle.strm_transmit.proofs.store.Store.is_unknown_reader.Goals as goal

pub returns-else-reader-len : goal.returns-else-reader-len
returns-else-reader-len c = search rules
