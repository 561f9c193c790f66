-- The host writer that is released with the read end of a stream: what it was, and what fits and is known
-- after it.
use Rattle.std.proofs.Common.{◌≡◌, ℕ, ◌<◌, ◌||◌, Bool, true, false, cond, length, set, Option, Some, None, refl, sym, ap, subst, ◌∙◌}
use Rattle.strm_buffers.specs.Tells.{Tells, told_by}
use Rattle.strm_machine.specs.State.{State, no_producer, producer_at, stream_at, is_held}
use Rattle.strm_machine.specs.declared.streams.Duty.TheVariants.{Serves, Ended}
use Rattle.strm_machine.specs.declared.streams.Owner.{Owner}
use Rattle.strm_machine.specs.declared.streams.Owner.TheVariants.{Held, Host, Loose, Gone}
use Rattle.strm_machine.specs.declared.streams.Side.TheVariants.{Writing, Reading}
use Rattle.strm_machine.specs.declared.streams.Side.{Side}
use Rattle.strm_machine.specs.Sides.{end_of}
use Rattle.strm_host_machine.specs.Attaching.{has_items, without_ends}
use Rattle.strm_host_machine.specs.Releasing.{KnowsHeld, released_by, released_among, released, released_in, after_release}
use Rattle.strm_host_machine.specs.Does.{Fits}
use Rattle.strm_host_machine.proofs.FitsLemmas.{Fits-stream}
use Rattle.strm_transmit.specs.Inside.{AreServed}
use Rattle.strm_transmit.proofs.ServedLemmas.{at_set, serving_kept}
use Rattle.strm_transmit.proofs.FitsLemmas.{Fits-ended}

-- one that is not spent is the one that was asked for
spent_is : (spent : Bool) (k n : ℕ) → cond spent None (Some k) ≡ Some n → k ≡ n
spent_is true k n e = cc e
spent_is false k n e = cc e

owners_are : (state : State) (holding : ℕ → Bool) (writer reader : Owner) (n : ℕ) → released_by state holding writer reader ≡ Some n → writer ≡ Host n
owners_are state holding (Host k) Loose n e = ap Host (spent_is ((producer_at state k).over || holding k) k n e)
owners_are state holding (Host k) (Held g h) n e = cc e
owners_are state holding (Host k) (Host r) n e = cc e
owners_are state holding (Host k) Gone n e = cc e
owners_are state holding (Held g h) reader n e = cc e
owners_are state holding Loose reader n e = cc e
owners_are state holding Gone reader n e = cc e

-- it has the write end
pub released_writes : (state : State) (s n : ℕ) → released state s ≡ Some n → (stream_at state s).writer.owner ≡ Host n
released_writes state s n e = by state.trapped e
  where
    by : (b : Bool) → cond b None (released_by state (λ k. (producer_at state k).holding) (stream_at state s).writer.owner (stream_at state s).reader.owner) ≡ Some n → (stream_at state s).writer.owner ≡ Host n
    by true f = cc f
    by false f = owners_are state (λ k. (producer_at state k).holding) (stream_at state s).writer.owner (stream_at state s).reader.owner n f

-- and the read end is loose, so no guest has one of them
loose_then : (state : State) (holding : ℕ → Bool) (w r : Owner) (n : ℕ) → released_by state holding w r ≡ Some n → is_held r ≡ false
loose_then state holding (Host m) Loose n e = refl
loose_then state holding (Host m) (Held g handle) n e = cc
loose_then state holding (Host m) (Host k) n e = refl
loose_then state holding (Host m) Gone n e = refl
loose_then state holding (Held g handle) r n e = cc
loose_then state holding Loose r n e = cc
loose_then state holding Gone r n e = cc

pub released_unheld : (state : State) (s n : ℕ) → released state s ≡ Some n → (side : Side) → is_held (end_of side (stream_at state s)).owner ≡ false
released_unheld state s n e Writing = ap is_held (released_writes state s n e)
released_unheld state s n e Reading = by state.trapped e
  where
    by : (b : Bool) → cond b None (released_by state (λ k. (producer_at state k).holding) (stream_at state s).writer.owner (stream_at state s).reader.owner) ≡ Some n → is_held (stream_at state s).reader.owner ≡ false
    by true f = cc f
    by false f = loose_then state (λ k. (producer_at state k).holding) (stream_at state s).writer.owner (stream_at state s).reader.owner n f

-- by what host writers tell it is the same
pub known_release : (state : State) (tells : Tells) (s : ℕ) → AreServed state.producers state.consumers state.streams → KnowsHeld state tells → released state s ≡ released_among state tells s
known_release state tells s served h = by (stream_at state s).writer.owner (stream_at state s).reader.owner state.trapped refl refl
  where
    owned : (w r : Owner) → state.trapped ≡ false → (stream_at state s).writer.owner ≡ w → released_by state (λ k. (producer_at state k).holding) w r ≡ released_by state (λ k. has_items (told_by tells k).holds) w r
    owned (Host n) Loose t o = ap (λ b. cond ((producer_at state n).over || b) None (Some n)) (h t n s (served.serves Writing n s o))
    owned (Host n) (Held g k) t o = refl
    owned (Host n) (Host k) t o = refl
    owned (Host n) Gone t o = refl
    owned (Held g k) r t o = refl
    owned Loose r t o = refl
    owned Gone r t o = refl

    by : (w r : Owner) (b : Bool) → state.trapped ≡ b → (stream_at state s).writer.owner ≡ w → cond b None (released_by state (λ k. (producer_at state k).holding) w r) ≡ cond b None (released_by state (λ k. has_items (told_by tells k).holds) w r)
    by w r true t o = refl
    by w r false t o = owned w r t o

module _ (state : State) (s n : ℕ) (served : AreServed state.producers state.consumers state.streams) (writes : (stream_at state s).writer.owner ≡ Host n) where
  -- it served the stream
  pub released_serves : (producer_at state n).duty ≡ Serves s
  released_serves = served.serves Writing n s writes

  kept : n < length state.producers
  kept = serving_kept state.producers n s released_serves

  pub released_made : s < length state.streams
  released_made = served.made Writing n s released_serves

  -- the host ends fit still
  pub released_fits : (tells : Tells) → Fits state tells → Fits (released_in state s (Some n)) tells
  released_fits tells fits =
      let mid = record state { streams = set state.streams s (without_ends (stream_at state s)) } in
      Fits-ended mid tells n kept (Fits-stream state tells s (without_ends (stream_at state s)) (record { kind = refl; payload = refl }) fits)

  -- and what the others hold is known
  pub released_knows : (tells : Tells) → KnowsHeld state tells → KnowsHeld (released_in state s (Some n)) tells
  released_knows tells h t k i e =
      at_set state.producers n (record (producer_at state n) { duty = Ended }) no_producer k (λ q. q.duty ≡ Serves i → q.holding ≡ has_items (told_by tells k).holds) kept
      (λ same f. absurd (let wrong : Ended ≡ Serves i = f in cc)) (λ other. h t k i) e

-- ## By what it answered

pub after_some : (old mid new : State) (s n : ℕ) → released old s ≡ Some n → mid ≡ record old { streams = set old.streams s (without_ends (stream_at old s)) } → new ≡ record mid { producers = set mid.producers n (record (producer_at mid n) { duty = Ended }) } → new ≡ after_release old s
after_some old mid new s n e m is =
    is
    ∙ ap (λ (x : State). record x { producers = set x.producers n (record (producer_at x n) { duty = Ended }) }) m
    ∙ ap (released_in old s) (sym e)

module _ (old : State) (s : ℕ) (served : AreServed old.producers old.consumers old.streams) where
  -- whatever holds of a state and stays after the release of a host writer that has the write end
  stays_by : (P : State → Type 0) (found : Option ℕ) → released old s ≡ found → ((n : ℕ) → (stream_at old s).writer.owner ≡ Host n → P old → P (released_in old s (Some n))) → P old → P (released_in old s found)
  stays_by P None e h p = p
  stays_by P (Some n) e h p = h n (released_writes old s n e) p

  pub release_fits : (new : State) → new ≡ after_release old s → (tells : Tells) → Fits old tells → Fits new tells
  release_fits new is tells fits =
      subst (λ x. Fits x tells) (sym is) (stays_by (λ x. Fits x tells) (released old s) refl (λ n o. released_fits old s n served o tells) fits)

  pub release_knows : (new : State) → new ≡ after_release old s → (tells : Tells) → KnowsHeld old tells → KnowsHeld new tells
  release_knows new is tells h =
      subst (λ x. KnowsHeld x tells) (sym is) (stays_by (λ x. KnowsHeld x tells) (released old s) refl (λ n o. released_knows old s n served o tells) h)
