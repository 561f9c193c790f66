use Rattle.std.proofs.Common.{drop}
use Rattle.strm_codes.specs.Layout.{item_type}
use Rattle.strm_transmit.proofs.BadItemLemmas.{first_is, none_bad}
use Rattle.strm_transmit.proofs.store.bad_items.first_bad.Goals as goal

pub returns-then-place-count-clause-some : goal.returns-then-place-count-clause-some
returns-then-place-count-clause-some c =
    first_is (drop c.args.from c.args.bytes.now) (item_type c.args.payload.now) c.args.count c.count_good_items-place.result c.count_good_items-place.ensures c.if-place-count.true

pub returns-else-place-count-clause-none : goal.returns-else-place-count-clause-none
returns-else-place-count-clause-none c = λ n.
    none_bad (drop c.args.from c.args.bytes.now) (item_type c.args.payload.now) c.args.count c.count_good_items-place.result c.count_good_items-place.ensures c.if-place-count.false
