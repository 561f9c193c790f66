-- The store after a stream was made in the place of one that is gone.
use Rattle.std.proofs.Common.{◌≡◌, ℕ, true, false, ◌+◌, ◌≤◌, ◌||◌, length, set, Some, None, Result, Ok, Err, refl, sym, ap, ◌∙◌, subst, arith}
use Rattle.std.proofs.lemmas.List.{get_or-set_same, length-set}
use Rattle.strm_codes.specs.declared.codes.TransmitIndex.{TransmitIndex}
use Rattle.strm_codes.specs.declared.refusals.Refusal.{Refusal}
use Rattle.strm_handles.specs.Counters.{Counter, counted}
use Rattle.strm_handles.specs.Handles.{next_index}
use Rattle.strm_machine.specs.State.{State, guest_in, no_stream, producer_at, consumer_at, places_in_use}
use Rattle.strm_machine.specs.Soundness.{IsSound, own_sizes_of}
use Rattle.strm_machine.specs.Sides.{end_of}
use Rattle.strm_machine.specs.Making.{with_ends, with_read_end, made_stream, writer_index}
use Rattle.strm_machine.specs.Refusals.{refusal}
use Rattle.strm_machine.specs.Tests.{is_unknown_guest, is_no_handle, are_handles_full, are_places_full, are_streams_full}
use Rattle.strm_machine.specs.Reactions.{Reaction, goes, performs}
use Rattle.strm_machine.specs.declared.acts.Act.{Act}
use Rattle.strm_machine.specs.declared.acts.Act.TheVariants.{Make}
use Rattle.strm_machine.specs.declared.acts.Making.TheVariants.{Between}
use Rattle.strm_machine.specs.declared.replies.Pair.{Pair}
use Rattle.strm_machine.specs.declared.replies.Reply.{Reply}
use Rattle.strm_machine.specs.declared.replies.Reply.TheVariants as replies
use Rattle.strm_machine.specs.declared.streams.Duty.TheVariants.{Serves}
use Rattle.strm_machine.specs.declared.streams.Stream.{Stream}
use Rattle.strm_machine.proofs.HeldLemmas.{StateIsHeld}
use Rattle.strm_machine.proofs.HostLemmas.{no_host}
use Rattle.strm_machine.proofs.RefusalLemmas.{PairFits, pair_fits, not_refused, neither, not_lt}
use Rattle.strm_channels.specs.Guests.{guests_of, live_in, sets_among}
use Rattle.strm_host_machine.specs.Does.{Fits}
use Rattle.strm_places.specs.Again.{IsFree, Behind, Again, made_pair_at, with_pair_at, performs_at, reaction_at}
use Rattle.strm_places.proofs.AgainLemmas.{put-again, performs_at-behind, reaction_at-behind, reaction_at-by, IsSound-put_at, StateIsHeld-put_at, next-read_end}
use Rattle.strm_transmit.specs.Again.{MeetsAt, GrowsFull}
use Rattle.strm_transmit.specs.Guests.{nobody}
use Rattle.strm_transmit.specs.Hosted.{StillFits}
use Rattle.strm_transmit.specs.Inside.{state_of, HavePlaces, IsStore}
use Rattle.strm_transmit.specs.Meets.{Meets, admitted, or_found}
use Rattle.strm_transmit.specs.Places.{IsGone, ArePlaces}
use Rattle.strm_transmit.specs.declared.errors.StoreError.{StoreError}
use Rattle.strm_transmit.specs.declared.errors.StoreError.TheVariants as errors
use Rattle.strm_transmit.specs.ReadyGuests.{Retold}
use Rattle.strm_transmit.specs.Telling.{member_of}
use Rattle.strm_transmit.specs.declared.store.Store.TheInside.{Inside}
use Rattle.strm_transmit.proofs.MakingLemmas.{nobodys, stream_made, numbers_of, as_pair, own_sizes-made, sets-made, members-made}
use Rattle.strm_transmit.proofs.ServedLemmas.{AreServed-set}
use Rattle.strm_transmit.proofs.StepLemmas.{IsAdmitted, meets_not_admitted}
use Rattle.strm_transmit.proofs.StoreLemmas.{SameBut, Agrees, IsStore-counted}
use Rattle.strm_transmit.proofs.ToldLemmas.{but-besides, besides-set, told-retold}
use Rattle.strm_transmit.proofs.ReadyGuestLemmas.{counted-retold}

-- a stream in the place of one that is gone, with its two ends in their guests' tables
pub record MakesAgain (old new : Inside) (n writer reader : ℕ) (ty : TransmitIndex) : Type 0 where
  pub same : SameBut old new
  pub counter : new.counter ≡ counted (counted old.counter)
  pub live : live_in (guests_of new.guests.items) ≡ live_in (guests_of old.guests.items) + 2
  pub live_sets : new.live_sets ≡ old.live_sets
  pub bytes : new.bytes ≡ old.bytes
  pub gone : IsGone old.streams.items n
  pub places : ArePlaces new.places new.streams.items
  pub guests : guests_of new.guests.items ≡ with_ends (guests_of old.guests.items) writer reader ty n
  pub streams : new.streams.items ≡ set old.streams.items n (stream_made old writer reader ty)
  pub retold : Retold (guests_of new.guests.items) n (stream_made old writer reader ty) old.ready new.ready

-- the place is free
pub free_of : (old : Inside) (n : ℕ) → IsGone old.streams.items n → IsFree (state_of old).streams n
free_of old n g = Again g.made g.gone

numbers-same : (old : Inside) (n writer reader : ℕ) (ty : TransmitIndex) → numbers_of old writer reader ty n ≡ numbers_of old writer reader ty (length old.streams.items)
numbers-same old n writer reader ty =
    ap (λ k. (next_index (guest_in (guests_of old.guests.items) reader).handles, k)) (next-read_end (guests_of old.guests.items) reader writer ty n (length old.streams.items))

module _ (old new : Inside) (n writer reader : ℕ) (ty : TransmitIndex) (h : MakesAgain old new n writer reader ty) where
  state_of-again : state_of new ≡ with_pair_at (state_of old) n writer reader ty
  unfolding with_pair_at
  state_of-again =
      rw (h.same.tag, h.same.limits, h.same.producers, h.same.kept, h.same.consumers, h.same.contexts, h.same.trapped, h.guests, h.streams, put-again old.streams.items n (stream_made old writer reader ty) h.gone.made) refl

  pub performs-again : (pair : Pair) → pair ≡ made_pair_at (state_of old) n writer reader ty → performs_at n (state_of old) (Make (Between writer reader ty)) ≡ goes (replies.Pair pair) (state_of new)
  unfolding performs_at
  performs-again pair e =
      ap (λ (s : State). goes (replies.Pair (made_pair_at (state_of old) n writer reader ty)) s) (sym state_of-again)
      ∙ ap (λ (p : Pair). goes (replies.Pair p) (state_of new)) (sym e)

  abbrev made : Stream
  made = stream_made old writer reader ty

  -- what is known of the ends of the stream is as they were made
  agrees_again : PairFits (state_of old) writer reader ty → IsStore old → Agrees new
  agrees_again fits i =
      let guests = guests_of old.guests.items in
      let held : StateIsHeld (state_of new) = subst StateIsHeld (sym state_of-again) (StateIsHeld-put_at (state_of old) n writer reader ty (free_of old n h.gone) fits i.held) in
      record {
        held = held;
        told = rw h.streams
            (told-retold (guests_of new.guests.items) (set old.streams.items n made) n (rw h.streams at held) old.ready.sets new.ready.sets made (get_or-set_same old.streams.items n made no_stream h.gone.made)
            (but-besides guests (guests_of new.guests.items) old.streams.items (set old.streams.items n made) n old.ready.sets (λ k number handle. ap (λ (x : _). member_of x k number handle) h.guests ∙ members-made guests writer reader ty n k number handle) (besides-set old.streams.items n made) i.told)
            h.retold.sets);
        ready_counted = rw h.streams
            (counted-retold guests (guests_of new.guests.items) (guests_of new.guests.items) old.streams.items n made old.ready new.ready
            (ap length h.guests ∙ length-set (with_read_end guests reader ty n) writer _ ∙ length-set guests reader _) h.retold i.ready_counted);
      }

  -- no host end serves a stream, so none served that which is gone
  kept_again : Fits (state_of old) nobody → HavePlaces old.producers old.kept.items old.streams.items → HavePlaces old.producers old.kept.items (set old.streams.items n made)
  kept_again fits k = record {
    few = k.few;
    places = λ m s e. absurd (omega (arith, (fits.writers m s e).there));
    unused = k.unused;
  }

  pub IsStore-again : refusal (state_of old) (Make (Between writer reader ty)) ≡ None → Fits (state_of old) nobody → IsStore old → IsStore new
  IsStore-again e unserved i =
      let fits = pair_fits (state_of old) writer reader ty e in
      let long = length-set old.streams.items n made in
      IsStore-counted old new
      (record {
        handles = record {
          limit = rw (h.counter, h.same.limits) i.limit;
          live = omega (arith, ap (λ (c : Counter). c.live) h.counter, i.live, h.live);
          within = rw h.counter (omega (arith, fits.handles, i.limit, i.live));
        };
        sets = h.live_sets ∙ i.sets ∙ sym (ap sets_among h.guests ∙ sets-made (guests_of old.guests.items) writer reader ty n);
        sizes = ap own_sizes_of h.guests ∙ own_sizes-made (guests_of old.guests.items) writer reader ty n;
        bytes = h.bytes;
      })
      (record {
        places = h.places;
        served = rw (h.same.producers, h.same.consumers, h.streams) (AreServed-set old.producers old.consumers old.streams.items i.served n made h.gone.made (λ side m o. absurd (no_host (end_of side made).owner m (nobodys made refl refl side) o)));
        kept = rw (h.same.producers, h.same.kept, h.streams) (kept_again unserved i.kept);
        few = rw (h.streams, long) i.few_streams;
      })
      (subst IsSound (sym state_of-again) (IsSound-put_at (state_of old) n writer reader ty (free_of old n h.gone) i.held fits i.sound))
      (agrees_again fits i) i

-- ## The call

-- the numbers of the two handles are those of any making
pub pair_again : (old : Inside) (n writer reader : ℕ) (ty : TransmitIndex) (numbers : ℕ × ℕ) → numbers ≡ numbers_of old writer reader ty n → as_pair numbers n ≡ made_pair_at (state_of old) n writer reader ty
pair_again old n writer reader ty numbers e =
    ap (λ (k : ℕ × ℕ). as_pair k n) (e ∙ numbers-same old n writer reader ty)

pub joined_again : (old : Inside) (n writer reader : ℕ) (ty : TransmitIndex) (numbers : ℕ × ℕ) (joined : Stream) → numbers ≡ numbers_of old writer reader ty n → joined ≡ made_stream ty writer numbers.1 reader numbers.0 → joined ≡ stream_made old writer reader ty
joined_again old n writer reader ty numbers joined e j =
    j ∙ ap (λ (k : ℕ × ℕ). made_stream ty writer k.1 reader k.0) (e ∙ numbers-same old n writer reader ty)

-- where a stream may be made, one with this number is
reaction_at-performs : (n : ℕ) (state : State) (act : Act) → state.trapped ≡ false → refusal state act ≡ None → reaction_at n state act ≡ performs_at n state act
reaction_at-performs n state act t e =
    reaction_at-by (λ (r : Reaction). r ≡ performs_at n state act) n state act
    (record {
      trapped = λ u. let wrong : true ≡ false = sym u ∙ t in cc;
      refused = λ r u f. let wrong : Some r ≡ None = sym f ∙ e in cc;
      performed = λ u f. refl;
    })

abbrev between : ℕ → ℕ → TransmitIndex → Act
between writer reader ty = Make (Between writer reader ty)

-- what was made as the machine makes it has the number behind the last
pub made_behind : (old new : State) (result : Result Reply StoreError) (act : Act) → Meets old new result (performs old act) → MeetsAt old new result (λ n. performs_at n old act)
made_behind old new result act m = record {
  number = length old.streams;
  free = Behind refl;
  meets = subst (Meets old new result) (sym (performs_at-behind old act)) m;
}

-- where memory had run out nothing has changed
pub made_not : (old new : State) (writer reader : ℕ) (ty : TransmitIndex) → new ≡ old → MeetsAt old new (Err errors.OutOfMemory) (λ n. performs_at n old (between writer reader ty))
unfolding performs_at
made_not old new writer reader ty e = record { number = length old.streams; free = Behind refl; meets = (refl, e) }

pub again_admitted : {V : Type 0} (old new : State) (act : Act) (wanted value : V) (result : Result Reply StoreError) → IsAdmitted old (refusal old act) wanted value → MeetsAt old new result (λ n. performs_at n old act) → MeetsAt old new result (λ n. reaction_at n old act)
again_admitted old new act wanted value result a m = record {
  number = m.number;
  free = m.free;
  meets = subst (Meets old new result) (sym (reaction_at-performs m.number old act a.untrapped a.none)) m.meets;
}

pub again_not_admitted : {V : Type 0} (state : State) (act : Act) (wanted : V) (found : Result V Refusal) (error : StoreError) → found ≡ or_found (refusal state act) wanted → Err error ≡ admitted state found → MeetsAt state state (Err error) (λ n. reaction_at n state act)
again_not_admitted state act wanted found error e a = record {
  number = length state.streams;
  free = Behind refl;
  meets = subst (Meets state state (Err error)) (sym (reaction_at-behind state act)) (meets_not_admitted state act wanted found error e a);
}

-- there is room for one more
pub pair_places : (state : State) (writer reader : ℕ) (ty : TransmitIndex) → refusal state (between writer reader ty) ≡ None → places_in_use state + 3 ≤ state.limits.places
unfolding refusal
pair_places state writer reader ty e =
    let first = not_refused (is_unknown_guest state writer || is_unknown_guest state reader) _ _ e in
    let second = not_refused (is_no_handle (next_index (guest_in state.guests reader).handles) || is_no_handle (writer_index state writer reader ty)) _ _ first.1 in
    let third = not_refused (are_handles_full state 2) _ _ second.1 in
    let fourth = not_refused (are_places_full state 3 || are_streams_full state) _ _ third.1 in
    not_lt state.limits.places (places_in_use state + 3) (neither (are_places_full state 3) (are_streams_full state) fourth.0).0

-- what holds of a state and of the machine's after it holds of that which a call leaves
pub meets_leaves : (P : State → Type 0) (old new : State) (result : Result Reply StoreError) (r : Reaction) → P old → P r.state → Meets old new result r → P new
meets_leaves P old new (Ok reply) r was is m = subst (λ (x : Reaction). P x.state) m is
meets_leaves P old new (Err (errors.Refused refusal)) r was is m = subst P (sym m.1) was
meets_leaves P old new (Err (errors.HostFailed end)) r was is m = absurd m
meets_leaves P old new (Err (errors.HostBroke end)) r was is m = absurd m
meets_leaves P old new (Err (errors.BadItem stream)) r was is m = subst (λ (x : Reaction). P x.state) m.0 is
meets_leaves P old new (Err errors.StoreTrapped) r was is m = subst P (sym m.1) was
meets_leaves P old new (Err errors.OutOfMemory) r was is m = subst P (sym m.1) was

-- what is kept of host ends is what was
record KeepsHosts (old new : State) : Type 0 where
  pub producers : new.producers ≡ old.producers
  pub consumers : new.consumers ≡ old.consumers

again-hosts : (n : ℕ) (state : State) (writer reader : ℕ) (ty : TransmitIndex) → KeepsHosts state (performs_at n state (between writer reader ty)).state
unfolding performs_at with_pair_at
again-hosts n state writer reader ty = record { producers = refl; consumers = refl }

-- a store that needs no host end needs none then
pub again_fits : (old new : State) (result : Result Reply StoreError) (writer reader : ℕ) (ty : TransmitIndex) → MeetsAt old new result (λ n. performs_at n old (between writer reader ty)) → Fits old nobody → StillFits old new
again_fits old new result writer reader ty m unserved tells fits =
    let kept = meets_leaves (KeepsHosts old) old new result (performs_at m.number old (between writer reader ty)) (record { producers = refl; consumers = refl }) (again-hosts m.number old writer reader ty) m.meets in
    record {
      writers = λ n s e. let serves : (producer_at old n).duty ≡ Serves s = rw (← kept.producers) e in absurd (omega (arith, (unserved.writers n s serves).there));
      readers = λ r s e. let serves : (consumer_at old r).duty ≡ Serves s = rw (← kept.consumers) e in absurd (omega (arith, (unserved.readers r s serves).there));
    }

-- what was refused or found no memory changes nothing, so there are no more streams
pub grows_not : (old new : State) → new ≡ old → GrowsFull old.streams new.streams
grows_not old new e = λ more. absurd (omega (arith, more, ap (λ (s : State). length s.streams) e))
