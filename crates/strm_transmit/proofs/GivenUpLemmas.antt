-- What a guest gives up as it ends leaves no host end with an end of a stream, and each operation with the guest that
-- has its end; there are as many streams, of the same types.
use Rattle.std.proofs.Common.{◌≡◌, ℕ, zero, suc, ◌+◌, ◌<◌, true, false, List, length, Option, Some, None, Ok, Err, refl, ap, ◌∙◌, inl, inr}
use Rattle.std.proofs.lemmas.Bool.{cond_both, cases_lt}
use Rattle.std.proofs.lemmas.List.{length-set, get_or-set_same, get_or_past}
use Rattle.strm_handles.specs.Handles.{entry_at}
use Rattle.strm_handles.specs.declared.entries.Entry.{Entry}
use Rattle.strm_handles.specs.declared.entries.Entry.TheVariants as entries
use Rattle.strm_error_contexts.specs.Contexts.{Contexts}
use Rattle.strm_machine.specs.State.{State, Guest, no_stream, guest_in, stream_at, is_host}
use Rattle.strm_machine.specs.Endings.{dropped, waits_for_host, code_of_cancel, cancelled_end, cancelled}
use Rattle.strm_machine.specs.Moves.{without_handle}
use Rattle.strm_machine.specs.Reactions.{with_stream_at}
use Rattle.strm_machine.specs.Sides.{opposite, end_of, with_end}
use Rattle.strm_machine.specs.Tests.{Name, end_named, side_of, is_busy}
use Rattle.strm_machine.specs.declared.streams.End.{End}
use Rattle.strm_machine.specs.declared.streams.Owner.TheVariants.{Gone}
use Rattle.strm_machine.specs.declared.streams.Side.{Side}
use Rattle.strm_machine.specs.declared.streams.Side.TheVariants.{Writing, Reading}
use Rattle.strm_machine.specs.declared.streams.Stream.{Stream}
use Rattle.strm_machine.proofs.EndingLemmas.{cancelled-becomes}
use Rattle.strm_machine.proofs.TableLemmas.{with_end-owners}
use Rattle.strm_places.specs.Lives.{with_none_pending, end_given_up, ends_given_up, rest_given_up, all_given_up, numbers_given, handles_given_up, emptied, ended}
use Rattle.strm_host_machine.proofs.FitsLemmas.{KeepsKind, Fits-stream}
use Rattle.strm_transmit.specs.Guests.{AreUnhosted, AreOfOwners}
use Rattle.strm_transmit.specs.Hosted.{StillFits}
use Rattle.strm_transmit.proofs.GuestLemmas.{IsUnhosted, set-unhosted, owners-unhosted, owner-unhosted}
use Rattle.strm_transmit.proofs.OwnerLemmas.{not_busy, StreamOwned, cancelled-owned, dropped-owned, set-owned}
use Rattle.strm_places.proofs.CalmLemmas.{cancelled-idle}

-- ## An end that is cancelled, and one that is dropped

cancelled-unhosted : (side : Side) (stream : Stream) → is_busy side stream ≡ true → IsUnhosted stream → IsUnhosted (cancelled side stream)
unfolding cancelled
cancelled-unhosted side stream busy u =
    let end = cancelled_end (waits_for_host side stream) (code_of_cancel side stream) (end_of side stream) in
    owners-unhosted stream (with_end side stream end) (with_end-owners side stream end (cancelled-becomes side stream busy).owner) u

dropped-unhosted : (side : Side) (stream : Stream) → IsUnhosted stream → IsUnhosted (dropped side stream)
unfolding dropped
dropped-unhosted side stream u = owner-unhosted side stream Gone refl u

with_end-kind : (side : Side) (stream : Stream) (end : End) → KeepsKind stream (with_end side stream end)
with_end-kind Writing stream end = record { kind = refl; payload = refl }
with_end-kind Reading stream end = record { kind = refl; payload = refl }

cancelled-kind : (side : Side) (stream : Stream) → KeepsKind stream (cancelled side stream)
unfolding cancelled
cancelled-kind side stream =
    with_end-kind side stream (cancelled_end (waits_for_host side stream) (code_of_cancel side stream) (end_of side stream))

dropped-kind : (side : Side) (stream : Stream) → KeepsKind stream (dropped side stream)
unfolding dropped
dropped-kind side stream = with_end-kind side stream (record (end_of side stream) { owner = Gone })

no_stream-idle : (side : Side) → is_busy side no_stream ≡ false
no_stream-idle Writing = refl
no_stream-idle Reading = refl

-- a stream with an operation was made
busy-there : (state : State) (s : ℕ) (side : Side) → is_busy side (stream_at state s) ≡ true → s < length state.streams
busy-there state s side busy =
    elim (cases_lt s (length state.streams)) [
      | inl l ↦ l
      | inr l ↦ absurd (let none : is_busy side (stream_at state s) ≡ false = ap (λ (x : Stream). is_busy side x) (get_or_past state.streams s no_stream l) ∙ no_stream-idle side in cc)
    ]

-- once its operation is cancelled an end has none
pub pending-idle : (state : State) (s : ℕ) (side : Side) → AreUnhosted state.streams → is_busy side (stream_at (with_none_pending state s side) s) ≡ false
pending-idle state s side u =
    let stream = stream_at state s in
    cond_both (is_busy side stream) _ _ (λ (after : State). is_busy side (stream_at after s) ≡ false)
    (λ busy. ap (λ (x : Stream). is_busy side x) (get_or-set_same state.streams s (cancelled side stream) no_stream (busy-there state s side busy)) ∙ cancelled-idle side stream (u s (opposite side)))
    (λ idle. idle)

-- ## What stays

-- no host end has an end, and each operation is of the guest that has its end; all else that no guest has is as it was
pub record StreamsLeft (old new : State) : Type 0 where
  pub unhosted : AreUnhosted new.streams
  pub owned : AreOfOwners new.streams
  pub many : length new.streams ≡ length old.streams
  pub limits : new.limits ≡ old.limits
  pub trapped : new.trapped ≡ old.trapped
  pub fits : StillFits old new

then-left : (a b c : State) → StreamsLeft a b → StreamsLeft b c → StreamsLeft a c
then-left a b c h j = record {
  unhosted = j.unhosted;
  owned = j.owned;
  many = j.many ∙ h.many;
  limits = j.limits ∙ h.limits;
  trapped = j.trapped ∙ h.trapped;
  fits = λ tells f. j.fits tells (h.fits tells f);
}

module _ (state : State) (u : AreUnhosted state.streams) (o : AreOfOwners state.streams) where
  stays : StreamsLeft state state
  stays = record { unhosted = u; owned = o; many = refl; limits = refl; trapped = refl; fits = λ tells f. f }

  -- guests and error contexts are others
  guests-left : (guests : List Guest) (contexts : Contexts) → StreamsLeft state (record state { guests = guests; contexts = contexts })
  guests-left guests contexts = record {
    unhosted = u;
    owned = o;
    many = refl;
    limits = refl;
    trapped = refl;
    fits = λ tells f. record { writers = f.writers; readers = f.readers };
  }

  -- a stream is another
  set-left : (s : ℕ) (x : Stream) → IsUnhosted x → StreamOwned x → KeepsKind (stream_at state s) x → StreamsLeft state (with_stream_at state s x)
  set-left s x here own kind = record {
    unhosted = set-unhosted state.streams s x here u;
    owned = set-owned state.streams s x o own;
    many = length-set state.streams s x;
    limits = refl;
    trapped = refl;
    fits = λ tells f. Fits-stream state tells s x kind f;
  }

  -- ## An end

  pending-left : (s : ℕ) (side : Side) → StreamsLeft state (with_none_pending state s side)
  pending-left s side =
      let stream = stream_at state s in
      cond_both (is_busy side stream) _ _ (λ (after : State). StreamsLeft state after)
      (λ busy. set-left s (cancelled side stream) (cancelled-unhosted side stream busy (u s)) (cancelled-owned side stream (o s)) (cancelled-kind side stream))
      (λ idle. stays)

pub end-left : (state : State) (g handle : ℕ) (name : Name) → AreUnhosted state.streams → AreOfOwners state.streams → StreamsLeft state (end_given_up state g handle name)
end-left state g handle (Err error) u o = stays state u o
end-left state g handle (Ok answer) u o =
    let s = answer.0 in
    let side = side_of answer.1 in
    let idle = with_none_pending state s side in
    let stream = stream_at idle s in
    let freed = without_handle idle g handle in
    let first = pending-left state u o s side in
    let second = guests-left idle first.unhosted first.owned freed.guests idle.contexts in
    let none = not_busy (end_of side stream).operation (pending-idle state s side u) in
    let third = set-left freed second.unhosted second.owned s (dropped side stream) (dropped-unhosted side stream (first.unhosted s)) (dropped-owned side stream (first.owned s) none) (dropped-kind side stream) in
    then-left state idle (with_stream_at freed s (dropped side stream)) first (then-left idle freed (with_stream_at freed s (dropped side stream)) second third)

-- the ends under the first so many numbers
pub ends-streams : (state : State) (g n : ℕ) → AreUnhosted state.streams → AreOfOwners state.streams → StreamsLeft state (ends_given_up state g n)
unfolding ends_given_up
ends-streams state g zero u o = stays state u o
ends-streams state g (suc n) u o =
    let before = ends_given_up state g n in
    let h = ends-streams state g n u o in
    let after = end_given_up before g (n + 1) (end_named before g (n + 1)) in
    then-left state before after h (end-left before g (n + 1) (end_named before g (n + 1)) h.unhosted h.owned)

-- ## Sets and error contexts

rest-left : (state : State) (g handle : ℕ) (x : Option Entry) → AreUnhosted state.streams → AreOfOwners state.streams → StreamsLeft state (rest_given_up state g handle x)
rest-left state g handle None u o = stays state u o
rest-left state g handle (Some (entries.WaitableSet rep)) u o =
    let after = rest_given_up state g handle (Some (entries.WaitableSet rep)) in
    guests-left state u o after.guests after.contexts
rest-left state g handle (Some (entries.ErrorContext rep)) u o =
    let after = rest_given_up state g handle (Some (entries.ErrorContext rep)) in
    guests-left state u o after.guests after.contexts
rest-left state g handle (Some (entries.Stream end)) u o = stays state u o
rest-left state g handle (Some (entries.Future end)) u o = stays state u o
rest-left state g handle (Some (entries.ResourceOwn resource lends)) u o = stays state u o
rest-left state g handle (Some (entries.ResourceBorrow resource scope)) u o = stays state u o
rest-left state g handle (Some (entries.Subtask rep is_host)) u o = stays state u o

pub all-streams : (state : State) (g n : ℕ) → AreUnhosted state.streams → AreOfOwners state.streams → StreamsLeft state (all_given_up state g n)
unfolding all_given_up
all-streams state g zero u o = stays state u o
all-streams state g (suc n) u o =
    let before = all_given_up state g n in
    let h = all-streams state g n u o in
    let entry = entry_at (guest_in before.guests g).handles (n + 1) in
    then-left state before (rest_given_up before g (n + 1) entry) h (rest-left before g (n + 1) entry h.unhosted h.owned)

-- ## All

pub handles-streams : (state : State) (g : ℕ) → AreUnhosted state.streams → AreOfOwners state.streams → StreamsLeft state (handles_given_up state g)
handles-streams state g u o =
    let count = numbers_given state g in
    let mid = ends_given_up state g count in
    let h = ends-streams state g count u o in
    then-left state mid (all_given_up mid g count) h (all-streams mid g count h.unhosted h.owned)

pub ended-streams : (state : State) (g : ℕ) → AreUnhosted state.streams → AreOfOwners state.streams → StreamsLeft state (ended state g)
ended-streams state g u o =
    let mid = handles_given_up state g in
    let h = handles-streams state g u o in
    let after = emptied mid g in
    then-left state mid after h (guests-left mid h.unhosted h.owned after.guests after.contexts)
