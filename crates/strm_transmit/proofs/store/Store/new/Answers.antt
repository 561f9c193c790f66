use Rattle.std.proofs.Common.{ℕ, zero, suc, Bool, false, [], get_or, refl, arith}
use Rattle.strm_machine.specs.State.{empty, no_stream}
use Rattle.strm_machine.specs.declared.streams.Side.TheVariants.{Writing, Reading}
use Rattle.strm_machine.proofs.EmptyLemmas.{IsSound-empty, StateIsHeld-empty}
use Rattle.strm_transmit.specs.Telling.{SaysOf, AreTold, has_report}
use Rattle.strm_transmit.proofs.StoreLemmas.{IsSound-same}
use Rattle.strm_transmit.proofs.KeptLemmas.{have_none}
use Rattle.strm_transmit.proofs.PlaceLemmas.{ArePlaces-none}
use Rattle.strm_transmit.proofs.ServedLemmas.{not_unused, all_unused, AreServed-none}
use Rattle.strm_transmit.proofs.store.Store.new.Goals as goal
use Rattle.strm_transmit.proofs.ReadyGuestLemmas.{counted-none}

says_none : (g number handle : ℕ) (b : Bool) → SaysOf [] g number handle b
says_none zero zero handle b = tt
says_none zero (suc number) handle b = tt
says_none (suc g) zero handle b = tt
says_none (suc g) (suc number) handle b = tt

-- nothing is known of no guests
told_none : AreTold [] [] []
told_none = record {
  told = λ g number handle s side owner member. says_none g number handle (has_report side (get_or [] s no_stream));
  within = λ g number handle none. says_none g number handle false;
}

pub invariant_of-result : goal.invariant_of-result
invariant_of-result c = record {
  sound = rw (c.new-2.ensures.items, c.new-3.ensures.items, c.new-5.ensures) (IsSound-same (empty c.args.tag c.args.limits) _ refl refl refl (IsSound-empty c.args.tag c.args.limits));
  held = rw (c.new-2.ensures.items, c.new-3.ensures.items) (StateIsHeld-empty c.args.tag c.args.limits);
  told = rw (c.new-2.ensures.items, c.new-3.ensures.items, c.new-7.ensures.sets) told_none;
  ready_counted = rw (c.new-2.ensures.items, c.new-3.ensures.items) (counted-none [] [] _ c.new-7.ensures.counts);
  limit = rw c.new.ensures refl;
  live = rw (c.new.ensures, c.new-2.ensures.items) refl;
  within = rw c.new.ensures (omega arith);
  places = rw (c.new-3.ensures.items, c.new-6.ensures) ArePlaces-none;
  served = rw c.new-3.ensures.items AreServed-none;
  kept = rw (c.new-3.ensures.items, c.new-4.ensures.items) have_none;
  sets = rw c.new-2.ensures.items refl;
  bytes = rw c.new-2.ensures.items refl;
  few_guests = rw c.new-2.ensures.items (omega arith);
  few_streams = rw c.new-3.ensures.items (omega arith);
}

pub returns-clause-fits : goal.returns-clause-fits
returns-clause-fits c tells = record {
  writers = λ n s e. absurd (not_unused _ s (all_unused Writing n) e);
  readers = λ r s e. absurd (not_unused _ s (all_unused Reading r) e);
}

pub returns-clause-known : goal.returns-clause-known
returns-clause-known c tells t n s e = absurd (not_unused _ s (all_unused Writing n) e)
