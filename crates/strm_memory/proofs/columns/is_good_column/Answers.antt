use Rattle.std.proofs.Common.{sym, drop}
use Rattle.strm_memory.proofs.ColumnLemmas.{good_column-no_char}
use Rattle.strm_memory.proofs.columns.is_good_column.Goals as goal

pub returns-in_default : goal.returns-in_default
returns-in_default c = sym (good_column-no_char c.args.scalar c.args.column.start c.args.column.size (drop c.args.from c.args.source.now) c.args.column.count c.in_default.not-Char)
