-- What a table ends as, where a `&mut` to one of its values is returned. Ours.
use Rattle.std.specs.Prelude.{ℕ, Result}
use Rattle.std.specs.Borrow.{Lends, LendsIfOk, Fml, RattleType, MutBor}
use Rattle.strm_resources.specs.Entries.{EntryTable, with_value}
use Rattle.strm_resources.specs.declared.kinds.Resident.{Ghosts}
use Rattle.strm_resources.specs.contracts.tables.ResourceTable.{the_row}

module _ {V : Type 0} where
  -- the table with another value under a number
  abbrev pub written : EntryTable V → ℕ → V → EntryTable V
  written t number value = record t { entries = with_value t.entries number value }

module _ (V : RattleType) (kinds : Ghosts V.Denot) (s : MutBor (EntryTable V.Denot)) (number : ℕ) where
  -- once the borrow r ends, the number has the last value written through r, and all else stays
  abbrev pub lends_value : MutBor V.Denot → Fml
  lends_value r = Lends (the_row V kinds) V s r (written s.now number)

  -- the same where the call answers r, and after a refusal the table is as it was
  abbrev pub lends_found : {E : Type 0} → Result (MutBor V.Denot) E → Fml
  lends_found r = LendsIfOk (the_row V kinds) V s r (written s.now number) s.now
