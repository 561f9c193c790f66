-- What a slot ends as, where a `&mut` to its value is returned. Ours.
use Rattle.std.specs.Prelude.{Option, Some}
use Rattle.std.specs.Borrow.{Lends, Fml, RattleType, MutBor}
use Rattle.std.specs.contracts.option.Option.{the_row}

-- it ends with the last value written through r
abbrev pub lends_slot : (V : RattleType) → MutBor (Option V.Denot) → MutBor V.Denot → Fml
lends_slot V s r = Lends (the_row V) V s r Some
