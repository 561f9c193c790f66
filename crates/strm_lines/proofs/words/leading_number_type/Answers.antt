use Rattle.std.proofs.Common.{codes}
use Rattle.strm_lines.proofs.TypeLemmas.{leading_stream, leading_future}
use Rattle.strm_lines.proofs.words.leading_number_type.Goals as goal

pub returns-in_ok-scalar : goal.returns-in_ok-scalar
returns-in_ok-scalar c = leading_future (codes "u") c.args.line.now _ _ _ c.in-Some.ensures c.in_ok-scalar.ensures

pub returns-in_ok-scalar-2 : goal.returns-in_ok-scalar-2
returns-in_ok-scalar-2 c = leading_stream (codes "u") c.args.line.now _ _ _ c.in-Some-behind.ensures c.in_ok-scalar-2.ensures

pub returns-in_ok-scalar-3 : goal.returns-in_ok-scalar-3
returns-in_ok-scalar-3 c = leading_future (codes "s") c.args.line.now _ _ _ c.in-Some-behind-2.ensures c.in_ok-scalar-3.ensures

pub returns-in_ok-scalar-4 : goal.returns-in_ok-scalar-4
returns-in_ok-scalar-4 c = leading_stream (codes "s") c.args.line.now _ _ _ c.in_ok-rest.ensures c.in_ok-scalar-4.ensures
