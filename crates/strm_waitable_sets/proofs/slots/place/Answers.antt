use Rattle.std.proofs.Common.{length, is_some, arith}
use Rattle.std.proofs.lemmas.Bool.{lt-ltb}
use Rattle.std.proofs.lemmas.List.{map-set, length-map}
use Rattle.strm_waitable_sets.proofs.slots.place.Goals as goal

pub returns-then-number-len-clause-flags : goal.returns-then-number-len-clause-flags
returns-then-number-len-clause-flags c =
    rw (length-map c.args.slots.now.items is_some, lt-ltb c.args.number (length c.args.slots.now.items) (omega (arith, c.args.slots.now.ok))) (map-set is_some c.args.slots.now.items c.args.number _)
