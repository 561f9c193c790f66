-- The turn of one stream, of whose host ends the records are forgotten before the call answers.
use Rattle.std.proofs.Common.{◌≡◌, ℕ, List, false, Option, Some, None, refl, sym, subst, ◌∙◌, ap}
use Rattle.std.specs.Prelude.{Result, IfSome, IfNone, slice_set}
use Rattle.strm_buffers.specs.Tells.{Tells}
use Rattle.strm_machine.specs.State.{State, stream_at, is_host}
use Rattle.strm_machine.specs.declared.streams.Owner.{Owner}
use Rattle.strm_machine.specs.declared.streams.Owner.TheVariants.{Held, Loose, Host, Gone}
use Rattle.strm_machine.specs.declared.streams.Side.TheVariants.{Writing, Reading}
use Rattle.strm_host_machine.specs.Driving.{drive_turn}
use Rattle.strm_transmit.specs.Hosted.{IsPart}
use Rattle.strm_transmit.specs.OutOfMemory.{OfTurn}
use Rattle.strm_transmit.specs.declared.errors.StoreError.{StoreError}
use Rattle.strm_ready_ends.specs.SendQueues.{SendQueue, forgotten}
use Rattle.strm_ready_ends.specs.ReceiveQueues.{ReceiveQueue}
use Rattle.strm_host_store.specs.HostStates.{HostState, host_state, ready_tell, queue_in, with_writer_forgotten, with_reader_forgotten, IsAmongReady}
use Rattle.strm_host_store.specs.Calls.{host_number, forgotten_across, forgotten_if_across, forgotten_on, TurnsAmong}
use Rattle.strm_host_store.proofs.FitLemmas.{pair_forgotten_fits}
use Rattle.strm_host_store.proofs.ReadyLemmas.{forgets_writer, forgets_reader}
use Rattle.strm_host_store.proofs.CallLemmas.{tell_same, among_same}

-- WHO HAS AN END

no_number : (owner : Owner) → is_host owner ≡ false → host_number owner ≡ None
no_number (Held g handle) none = refl
no_number Loose none = refl
no_number (Host n) none = cc
no_number Gone none = refl

-- as the store tells it
pub number_of_owner : (owner : Owner) (number : Option ℕ) → IfSome number (λ n. owner ≡ Host n) → IfNone number (is_host owner ≡ false) → number ≡ host_number owner
number_of_owner owner (Some n) some none = sym (ap host_number some)
number_of_owner owner None some none = sym (no_number owner none)

-- WHAT IS FORGOTTEN

forgets_pair : (ws : List SendQueue) (rs : List ReceiveQueue) (o p : Option ℕ)
    → ready_tell (with_writer_forgotten o ws) (with_reader_forgotten p rs) ≡ forgotten_if_across Writing p (forgotten_if_across Reading o (ready_tell ws rs))
forgets_pair ws rs None None = refl
forgets_pair ws rs (Some n) None = forgets_writer ws rs n
forgets_pair ws rs None (Some r) = forgets_reader ws rs r
forgets_pair ws rs (Some n) (Some r) =
    forgets_reader (slice_set ws n (forgotten (queue_in ws n))) rs r ∙ ap (λ (t : Tells). forgotten_across Writing r t) (forgets_writer ws rs n)

-- THE TURN

-- a turn, from a store that had these ends, and what they are behind it and behind what is forgotten
module _ (host : HostState) (old new : State) (us ws vs : List SendQueue) (ps rs qs : List ReceiveQueue) (s : ℕ) (result : Result (Unit {0}) StoreError) (o p : Option ℕ) where
  -- as the store did it
  abbrev Turned : Type 0
  Turned = IsPart old new (ready_tell us ps) (ready_tell ws rs) result (λ world. drive_turn world s) (OfTurn s)

  forgotten_so : vs ≡ with_writer_forgotten o ws → qs ≡ with_reader_forgotten p rs → o ≡ host_number (stream_at old s).writer.owner → p ≡ host_number (stream_at old s).reader.owner
      → ready_tell vs qs ≡ forgotten_on (stream_at old s) (ready_tell ws rs)
  forgotten_so e f g h =
      tell_same vs (with_writer_forgotten o ws) qs (with_reader_forgotten p rs) e f
      ∙ forgets_pair ws rs o p
      ∙ ap (λ (x : Option ℕ). forgotten_if_across Writing p (forgotten_if_across Reading x (ready_tell ws rs))) g
      ∙ ap (λ (x : Option ℕ). forgotten_if_across Writing x (forgotten_if_across Reading (host_number (stream_at old s).writer.owner) (ready_tell ws rs))) h

  pub turns : host_state old us ps ≡ host → o ≡ host_number (stream_at host.state s).writer.owner → p ≡ host_number (stream_at host.state s).reader.owner → Turned
      → vs ≡ with_writer_forgotten o ws → qs ≡ with_reader_forgotten p rs → TurnsAmong host (host_state new vs qs) s result
  turns view g h part e f =
      let back : host.state ≡ old = sym (ap (λ (x : HostState). x.state) view) in
      subst (λ (x : HostState). TurnsAmong x (host_state new vs qs) s result) view
      (record {
        told = ready_tell ws rs;
        part = part;
        after = forgotten_so e f
            (g ∙ ap (λ (x : State). host_number (stream_at x s).writer.owner) back)
            (h ∙ ap (λ (x : State). host_number (stream_at x s).reader.owner) back);
      })

  pub turn_among : Turned → vs ≡ with_writer_forgotten o ws → qs ≡ with_reader_forgotten p rs → IsAmongReady (host_state new vs qs)
  turn_among part e f =
      among_same new vs (with_writer_forgotten o ws) qs (with_reader_forgotten p rs) e f
      (record { fits = pair_forgotten_fits new ws rs o p part.fits })
