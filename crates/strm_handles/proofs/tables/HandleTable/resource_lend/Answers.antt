use Rattle.std.proofs.Common.{rules}
use Rattle.strm_handles.proofs.tables.HandleTable.resource_lend.Goals as goal

pub returns-else-is_full-clause-live : goal.returns-else-is_full-clause-live
returns-else-is_full-clause-live c = search rules
