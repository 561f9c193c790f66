use Rattle.std.proofs.Common.{◌≡◌, ℕ, zero, suc, ◌*◌, Ok, false, nat_lt, refl, sym, ap, arith, ◌∙◌}
use Rattle.std.specs.Prelude.{◌&&◌}
use Rattle.std.proofs.Math.Bool.{and-false}
use Rattle.std.proofs.Math.Nat.{le-mul_of_pos_right}
use Rattle.strm_codes.specs.Layout.{item_type}
use Rattle.strm_codes.specs.ItemTypes.{item_size, ItemType}
use Rattle.strm_memory.specs.Region.{region_of}
use Rattle.strm_memory.proofs.memories.GuestMemory.region.Goals as goal

none_of : (size count : ℕ) → size * count ≡ 0 → (nat_lt 0 count && nat_lt 0 size) ≡ false
none_of size zero e = refl
none_of zero (suc n) e = and-false (nat_lt 0 (suc n))
none_of (suc m) (suc n) e = absurd (omega (arith, le-mul_of_pos_right {m = suc n} (suc m) (omega arith), e))

region_of-none : (length : ℕ) (t : ItemType) (address count : ℕ) → item_size t * count ≡ 0 → Ok tt ≡ region_of length t address count
region_of-none length t address count e = rw (none_of (item_size t) count e) refl

pub returns-then-len-eq0 : goal.returns-then-len-eq0
returns-then-len-eq0 c =
    region_of-none _ (item_type c.args.payload) c.args.address c.args.count
    (ap (λ n. n * c.args.count) (sym c.size.ensures.exact) ∙ ap (λ n. c.size.result * n) (sym c.as_usize.ensures.exact) ∙ c.if-len-eq0.true)
