use Rattle.std.proofs.Common.{length, drop, arith}
use Rattle.strm_codes.specs.Layout.{item_type}
use Rattle.strm_memory.proofs.GoodLemmas.{length-good_items}
use Rattle.strm_ready_ends.proofs.WholeLemmas.{good_inside}
use Rattle.strm_ready_ends.proofs.wholes.count_good.Goals as goal

pub returns-clause-exact : goal.returns-clause-exact
returns-clause-exact c =
    omega (arith, c.count_good_items-good.ensures, length-good_items (item_type c.args.payload.now) (drop c.args.from c.args.bytes.now) c.args.count)

pub returns-clause-inside : goal.returns-clause-inside
returns-clause-inside c = good_inside c.args.payload.now (length c.args.bytes.now) c.args.from c.args.count _ (omega arith) c.requires
