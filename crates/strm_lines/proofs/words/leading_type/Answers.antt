use Rattle.std.proofs.Common.{sym}
use Rattle.strm_lines.proofs.TypeLemmas.{leading_bytes}
use Rattle.strm_lines.proofs.words.leading_type.Goals as goal

pub returns-in-Some : goal.returns-in-Some
returns-in-Some c = sym (leading_bytes c.args.line.now _ (sym c.in-Some.ensures))
