-- What a consumer takes of an offer, said of what it is offered.
use Rattle.std.proofs.Common.{◌≡◌, ℕ, ◌-◌, ◌≤◌, length, min, refl, ap, arith}
use Rattle.strm_codes.specs.Layout.{item_type}
use Rattle.strm_buffers.specs.Offers.{Offered, items_lent, left_of, after_taking}
use Rattle.strm_buffers.proofs.OfferLemmas.{good_most}
use Rattle.strm_host.specs.Consuming.{offering_of}

-- of an offer of which none is taken all are left
pub all_left : (o : Offered) → o.taken ≡ 0 → left_of o ≡ (offering_of o).items
all_left o e = rw e refl

-- so many of them are taken
pub taken_first : (o : Offered) (n : ℕ) → o.taken ≡ 0 → (after_taking n o).taken ≡ min n (length (offering_of o).items)
taken_first o n e = omega (arith, e, ap length (all_left o e))

-- and all of them, where no fewer are wanted
pub taken_whole : (o : Offered) (n : ℕ) → o.taken ≡ 0 → items_lent o.source - o.taken ≤ n → (after_taking n o).taken ≡ length (offering_of o).items
taken_whole o n e h = omega (arith, e, ap length (all_left o e), h, good_most (item_type o.payload) o.source)
