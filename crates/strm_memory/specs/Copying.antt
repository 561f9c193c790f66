-- What a copy of so many items from one address to another answers and leaves. Ours.
use Rattle.std.specs.Prelude.{◌≡◌, ℕ, List, Result, ◌↔◌, IsNone, IsSomeAnd, IsErr, OnOk, OnErr}
use Rattle.strm_memory.specs.Items.{items_at, stored_at}
use Rattle.strm_memory.specs.declared.copies.BadItem.{BadItem}
use Rattle.strm_codes.specs.ItemTypes.{ItemType}

-- it is as by lifting all of them and then lowering them; of a bad one nothing is left
pub record CopiesItems (t : ItemType) (source : List ℕ) (from : ℕ) (old new : List ℕ) (to n : ℕ)
    (result : Result (Unit {0}) BadItem) : Type 0 where
  pub ok : OnOk result (IsSomeAnd (items_at t source from n) (λ xs. new ≡ stored_at t old to xs))
  pub bad : IsErr result ↔ IsNone (items_at t source from n)
  pub err : OnErr result (new ≡ old)
