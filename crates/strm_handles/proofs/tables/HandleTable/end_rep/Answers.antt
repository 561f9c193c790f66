use Rattle.std.proofs.Common.{rules}
use Rattle.strm_handles.proofs.tables.HandleTable.end_rep.Goals as goal

pub returns-in-Some-Future : goal.returns-in-Some-Future
returns-in-Some-Future c = search rules
