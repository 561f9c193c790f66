-- The store after an end of a stream has another owner, and its handle was freed, given or neither.
use Rattle.std.proofs.Common.{◌≡◌, ℕ, ◌<◌, true, false, length, set, Option, None, Ok, refl, sym, ap, ◌∙◌, subst, ⊎_elim, inl, inr}
use Rattle.std.specs.Prelude.{is_ok}
use Rattle.std.proofs.lemmas.Bool.{cases_lt}
use Rattle.std.proofs.lemmas.List.{get_or_past, get_or-set_same, length-set}
use Rattle.strm_codes.specs.declared.codes.TransmitIndex.{TransmitIndex}
use Rattle.strm_waitable_sets.specs.Sets.{handle_left, set_of}
use Rattle.strm_machine.specs.State.{State, sets_in, no_stream, stream_at, is_loose, is_held, is_host, sets_in_use}
use Rattle.strm_machine.specs.Sides.{end_of}
use Rattle.strm_machine.specs.Moves.{without_handle, with_owner}
use Rattle.strm_machine.specs.Tests.{named, end_named, stream_named, side_named}
use Rattle.strm_machine.specs.Refusals.{refusal}
use Rattle.strm_machine.specs.Reactions.{Reaction, goes, transfers, lowers, performs}
use Rattle.strm_machine.specs.Soundness.{IsSound, own_sizes_of}
use Rattle.strm_machine.specs.declared.acts.NamedEnd.{NamedEnd}
use Rattle.strm_machine.specs.declared.acts.Act.{Act}
use Rattle.strm_machine.specs.declared.acts.Act.TheVariants.{Transfer, OnLoose}
use Rattle.strm_machine.specs.declared.acts.LooseAct.TheVariants.{Lower, Close}
use Rattle.strm_machine.specs.declared.replies.Reply.TheVariants as replies
use Rattle.strm_machine.specs.declared.streams.Owner.{Owner}
use Rattle.strm_machine.specs.declared.streams.Owner.TheVariants.{Held}
use Rattle.strm_machine.specs.declared.streams.Side.{Side}
use Rattle.strm_machine.specs.declared.streams.Side.TheVariants.{Writing, Reading}
use Rattle.strm_machine.specs.declared.streams.Stream.{Stream}
use Rattle.strm_machine.proofs.EndLemmas.{Unchanged}
use Rattle.strm_machine.proofs.HostLemmas.{no_host}
use Rattle.strm_machine.proofs.ReactionLemmas.{reaction-performs}
use Rattle.strm_machine.proofs.RefusalLemmas.{move_fits, lower_fits, close_fits}
use Rattle.strm_machine.proofs.SoundLemmas.{IsSound-set, IsSound-freed, own_sizes_of-with_table, own_sizes_of-with_handles}
use Rattle.strm_machine.proofs.SoundStepLemmas.{reaction-sound}
use Rattle.strm_channels.specs.Changes.{AddsHandle, FreesHandle, MovesEnd}
use Rattle.strm_channels.specs.Guests.{guests_of, live_in, sets_among, without_handle_in, with_end_in}
use Rattle.strm_transmit.specs.Inside.{state_of, AreServed, HavePlaces, IsStore}
use Rattle.strm_transmit.specs.Places.{ArePlaces}
use Rattle.strm_transmit.specs.declared.store.Store.TheInside.{Inside}
use Rattle.strm_transmit.proofs.ServedLemmas.{ComesNoHost, AreServed-set}
use Rattle.strm_transmit.proofs.EndingLemmas.{named_made}
use Rattle.strm_transmit.proofs.KeptLemmas.{have_set}
use Rattle.strm_transmit.proofs.StoreLemmas.{SameBut, sets-with_table, kept_counted, more_counted, less_counted, fits_below, CountsStreams, Agrees, IsStore-counted, IsSound-same}
use Rattle.strm_transmit.specs.Telling.{AreTold, Leaves}
use Rattle.strm_transmit.proofs.ToldLemmas.{SameOrFree, ToldBut, members-with_table, besides-set, but-besides, but-members, but-left, leaves-left, told-retold, IsHeld-set}
use Rattle.strm_transmit.proofs.HeldStoreLemmas.{performs-held}
use Rattle.strm_machine.proofs.HeldLemmas.{StateIsHeld, IsHeld, IsHeld-removed, owned_beside}
use Rattle.strm_machine.proofs.NamedEndLemmas.{is_end-ok}
use Rattle.strm_machine.specs.Moments.{is_end}
use Rattle.strm_transmit.specs.ReadyGuests.{Known, AreReadyCounted, SameCounts, Retold}
use Rattle.strm_transmit.proofs.ReadyGuestLemmas.{counted-kept, counted-retold}

-- an end of stream s has another owner, and its ends are told again
pub record SetsOwner (old new : Inside) (s : ℕ) (side : Side) (owner : Owner) (between : Known) : Type 0 where
  pub same : SameBut old new
  pub bytes : new.bytes ≡ old.bytes
  pub live_sets : new.live_sets ≡ old.live_sets
  pub counted : ArePlaces new.places new.streams.items
  pub streams : new.streams.items ≡ set old.streams.items s (with_owner side (stream_at (state_of old) s) owner)
  pub retold : Retold (guests_of new.guests.items) s (with_owner side (stream_at (state_of old) s) owner) between new.ready
  pub kept_counts : SameCounts old.ready between

-- the handles of guests stay, and their counter
pub record KeepsHandles (old new : Inside) : Type 0 where
  pub counter : new.counter ≡ old.counter
  pub guests : new.guests ≡ old.guests

-- a handle leaves its set
pub record LeavesHome (old : Inside) (g handle : ℕ) (between : Known) : Type 0 where
  pub home : Option ℕ
  pub is : home ≡ set_of (sets_in (guests_of old.guests.items) g) handle
  pub leaves : Leaves g handle home old.ready.sets between.sets

-- a handle of a guest is freed and counted off
abbrev pub Frees : Inside → Inside → ℕ → ℕ → Type 0
Frees old new g handle =
    FreesHandle (guests_of old.guests.items) (guests_of new.guests.items) (without_handle_in (guests_of old.guests.items) g handle) old.counter new.counter

-- an owner that is no host end
owned-comes : (side : Side) (stream : Stream) (owner : Owner) → is_host owner ≡ false → ComesNoHost stream (with_owner side stream owner)
owned-comes Writing stream owner u Writing n e = absurd (no_host owner n u e)
owned-comes Writing stream owner u Reading n e = e
owned-comes Reading stream owner u Writing n e = e
owned-comes Reading stream owner u Reading n e = absurd (no_host owner n u e)

owned-payload : (side : Side) (stream : Stream) (owner : Owner) → (with_owner side stream owner).payload ≡ stream.payload
owned-payload Writing stream owner = refl
owned-payload Reading stream owner = refl

-- the owner of an end that got one, and those of the others
owned-owner : (side : Side) (stream : Stream) (owner : Owner) → (end_of side (with_owner side stream owner)).owner ≡ owner
owned-owner Writing stream owner = refl
owned-owner Reading stream owner = refl

owned-across : (side other : Side) (stream : Stream) (owner : Owner) → is_held (end_of side stream).owner ≡ false → is_held owner ≡ false
    → SameOrFree (end_of other stream).owner (end_of other (with_owner side stream owner)).owner
owned-across Writing Writing stream owner was now = inr (was, now)
owned-across Writing Reading stream owner was now = inl refl
owned-across Reading Writing stream owner was now = inl refl
owned-across Reading Reading stream owner was now = inr (was, now)

module _ (old new : Inside) (s : ℕ) (side : Side) (owner : Owner) (between : Known) (l : s < length old.streams.items) (u : is_host owner ≡ false) (o : SetsOwner old new s side owner between) (i : IsStore old) where
  -- the stream then
  abbrev given : Stream
  given = with_owner side (stream_at (state_of old) s) owner

  -- what is known of the ends of other streams, once they are told of these
  told_again : IsHeld (guests_of new.guests.items) new.streams.items → ToldBut (guests_of new.guests.items) (set old.streams.items s given) s between.sets → AreTold (guests_of new.guests.items) new.streams.items new.ready.sets
  told_again held but =
      rw o.streams
      (told-retold (guests_of new.guests.items) (set old.streams.items s given) s (rw o.streams at held) between.sets new.ready.sets given (get_or-set_same old.streams.items s given no_stream l) but o.retold.sets)

  -- and its ends are counted again
  counted_again : length (guests_of new.guests.items) ≡ length (guests_of old.guests.items) → AreReadyCounted (guests_of new.guests.items) new.streams.items new.ready
  counted_again many =
      rw o.streams
      (counted-retold (guests_of old.guests.items) (guests_of new.guests.items) (guests_of new.guests.items) old.streams.items s given between new.ready many o.retold
      (counted-kept (guests_of old.guests.items) old.streams.items old.ready between o.kept_counts i.ready_counted))

  -- the stream alone
  owned : IsSound (record (state_of old) { streams = new.streams.items })
  owned = rw o.streams (IsSound-set (state_of old) s side (record (end_of side (stream_at (state_of old) s)) { owner = owner }) l (Unchanged refl) i.sound)

  -- no host end came to the stream
  served : AreServed new.producers new.consumers new.streams.items
  served = rw (o.same.producers, o.same.consumers, o.streams) (AreServed-set old.producers old.consumers old.streams.items i.served s (with_owner side (stream_at (state_of old) s) owner) l (owned-comes side (stream_at (state_of old) s) owner u))

  -- and its payload stayed
  places : HavePlaces new.producers new.kept.items new.streams.items
  places =
      let given = with_owner side (stream_at (state_of old) s) owner in
      rw (o.same.producers, o.same.kept, o.streams) (have_set old.producers old.kept.items old.streams.items i.kept s given l (owned-payload side (stream_at (state_of old) s) owner))

  counts : CountsStreams new
  counts = record { places = o.counted; served = served; kept = places; few = rw (o.streams, length-set old.streams.items s (with_owner side (stream_at (state_of old) s) owner)) i.few_streams }

  -- as many sets as there were
  as_many : sets_among (guests_of new.guests.items) ≡ sets_among (guests_of old.guests.items) → new.live_sets ≡ sets_in_use (state_of new)
  as_many e = o.live_sets ∙ i.sets ∙ sym e

  agrees_owned : is_held (end_of side (stream_at (state_of old) s)).owner ≡ false → is_held owner ≡ false → between ≡ old.ready → KeepsHandles old new → Agrees new
  agrees_owned was now same h =
      let guests = guests_of old.guests.items in
      let held : IsHeld (guests_of new.guests.items) new.streams.items = rw (h.guests, o.streams) (IsHeld-set guests old.streams.items s given l (λ other. owned-across side other (stream_at (state_of old) s) owner was now) i.held) in
      record {
        held = held;
        told = told_again held (rw (h.guests, same) (but-besides guests guests old.streams.items (set old.streams.items s given) s old.ready.sets (λ _ _ _. refl) (besides-set old.streams.items s given) i.told));
        ready_counted = counted_again (ap (λ (g : _). length (guests_of g.items)) h.guests);
      }

  pub IsStore-owned : is_held (end_of side (stream_at (state_of old) s)).owner ≡ false → is_held owner ≡ false → between ≡ old.ready → KeepsHandles old new → IsStore new
  IsStore-owned was now same h =
      IsStore-counted old new
      (record {
        handles = kept_counted old new o.same.limits h.counter (ap (λ (g : _). live_in (guests_of g.items)) h.guests) i;
        sets = as_many (ap (λ (g : _). sets_among (guests_of g.items)) h.guests);
        sizes = rw h.guests refl;
        bytes = o.bytes;
      })
      counts
      (IsSound-same (record (state_of old) { streams = new.streams.items }) (state_of new) (ap (λ (g : _). guests_of g.items) h.guests) refl o.same.contexts owned) (agrees_owned was now same h) i

  agrees_released : (g handle : ℕ) → g < length (guests_of old.guests.items) → is_end s side (end_named (state_of old) g handle) ≡ true → is_held owner ≡ false → LeavesHome old g handle between → Frees old new g handle → Agrees new
  agrees_released g handle there is now leaves h =
      let guests = guests_of old.guests.items in
      let freed = without_handle_in guests g handle in
      let more = set old.streams.items s given in
      let held : IsHeld (guests_of new.guests.items) new.streams.items =
      rw (h.guests, o.streams)
      (IsHeld-removed guests old.streams.items more g s side there (λ k other. owned_beside old.streams.items s side l owner k other) i.held handle (handle_left (sets_in guests g) handle) is
      (ap (λ (x : Stream). is_held (end_of side x).owner) (get_or-set_same old.streams.items s given no_stream l) ∙ ap is_held (owned-owner side (stream_at (state_of old) s) owner) ∙ now)) in
      record {
        held = held;
        told = told_again held
            (rw h.guests
            (but-left guests freed more s g handle (leaves-left guests g _ handle there) old.ready.sets between.sets leaves.home leaves.is leaves.leaves
            (but-besides guests guests old.streams.items more s old.ready.sets (λ _ _ _. refl) (besides-set old.streams.items s given) i.told)));
        ready_counted = counted_again (ap length h.guests ∙ length-set guests g _);
      }

  pub IsStore-released : (g handle : ℕ) → g < length (guests_of old.guests.items) → is_end s side (end_named (state_of old) g handle) ≡ true → is_held owner ≡ false → LeavesHome old g handle between → Frees old new g handle → IsStore new
  IsStore-released g handle there is now leaves h =
      let ok : is_ok (end_named (state_of old) g handle) ≡ true = is_end-ok s side (end_named (state_of old) g handle) is in
      IsStore-counted old new
      (record {
        handles = less_counted old new o.same.limits h.counter h.live i;
        sets = as_many (ap sets_among h.guests ∙ sets-with_table (guests_of old.guests.items) g _ _ refl);
        sizes = ap own_sizes_of h.guests ∙ own_sizes_of-with_table (guests_of old.guests.items) g _ _;
        bytes = o.bytes;
      })
      counts
      (IsSound-same (without_handle (record (state_of old) { streams = new.streams.items }) g handle) (state_of new) h.guests refl o.same.contexts
      (IsSound-freed (record (state_of old) { streams = new.streams.items }) g handle ok owned)) (agrees_released g handle there is now leaves h) i

-- ## Handles that are given

-- a handle of a guest is freed, and one is given to a guest
abbrev pub Moves : Inside → Inside → Side → NamedEnd → ℕ → ℕ → ℕ → Type 0
Moves old new side end to s number =
    MovesEnd (guests_of old.guests.items) (guests_of new.guests.items) side end to s old.counter new.counter (Ok number)

-- a handle is given and counted
abbrev pub Gives : Inside → Inside → Side → TransmitIndex → ℕ → ℕ → ℕ → Type 0
Gives old new side ty to s number =
    AddsHandle (guests_of old.guests.items) (guests_of new.guests.items) (with_end_in (guests_of old.guests.items) to side ty s) to old.counter new.counter number

-- a step that nothing refuses leaves a sound state
performs-sound : (state : State) (act : Act) → state.trapped ≡ false → refusal state act ≡ None → IsSound state → IsSound (performs state act).state
performs-sound state act t e h = subst (λ (r : Reaction). IsSound r.state) (reaction-performs state act t e) (reaction-sound state act h)

transfers-sound : (state : State) (side : Side) (end : NamedEnd) (to s : ℕ) → state.trapped ≡ false → refusal state (Transfer end to) ≡ None → s ≡ stream_named (named state end) → side ≡ side_named (named state end) → IsSound state → IsSound (transfers state s side end to).state
unfolding performs
transfers-sound state side end to s t e stream_is side_is h = rw (stream_is, side_is) (performs-sound state (Transfer end to) t e h)

lowers-sound : (state : State) (reader g : ℕ) (ty : TransmitIndex) → state.trapped ≡ false → refusal state (OnLoose reader (Lower g ty)) ≡ None → IsSound state → IsSound (lowers state reader g ty).state
unfolding performs
lowers-sound state reader g ty t e h = performs-sound state (OnLoose reader (Lower g ty)) t e h

-- handles and ends agree then
transfers-held : (state : State) (side : Side) (end : NamedEnd) (to s : ℕ) → refusal state (Transfer end to) ≡ None → s ≡ stream_named (named state end) → side ≡ side_named (named state end) → IsSound state → StateIsHeld state → StateIsHeld (transfers state s side end to).state
unfolding performs
transfers-held state side end to s e stream_is side_is h held = rw (stream_is, side_is) (performs-held state (Transfer end to) e h held)

lowers-held : (state : State) (reader g : ℕ) (ty : TransmitIndex) → refusal state (OnLoose reader (Lower g ty)) ≡ None → IsSound state → StateIsHeld state → StateIsHeld (lowers state reader g ty).state
unfolding performs
lowers-held state reader g ty e h held = performs-held state (OnLoose reader (Lower g ty)) e h held

-- what the machine does with an end that may move
pub performs-transfer : (state : State) (end : NamedEnd) (to : ℕ) → performs state (Transfer end to) ≡ transfers state (stream_named (named state end)) (side_named (named state end)) end to
unfolding performs
performs-transfer state end to = refl

-- its stream was made
moved_made : (state : State) (end : NamedEnd) (to s : ℕ) → refusal state (Transfer end to) ≡ None → s ≡ stream_named (named state end) → IsSound state → s < length state.streams
moved_made state end to s e same h = named_made state (side_named (named state end)) end s h (move_fits state end to e).leaves same

-- the end of a stream went to a guest, under this handle
module _ (old new : Inside) (s : ℕ) (side : Side) (end : NamedEnd) (to number : ℕ) (between : Known) (o : SetsOwner old new s side (Held to number) between) (m : Moves old new side end to s number) where
  pub transfers-is : transfers (state_of old) s side end to ≡ goes (replies.Number number) (state_of new)
  transfers-is = rw (o.same.tag, o.same.limits, o.same.producers, o.same.kept, o.same.consumers, o.same.contexts, o.same.trapped, m.guests, o.streams, m.number) refl

  agrees_moved : LeavesHome old end.guest end.handle between → refusal (state_of old) (Transfer end to) ≡ None → s ≡ stream_named (named (state_of old) end) → side ≡ side_named (named (state_of old) end) → IsStore old → Agrees new
  agrees_moved leaves e stream_is side_is i =
      let guests = guests_of old.guests.items in
      let freed = without_handle_in guests end.guest end.handle in
      let more = set old.streams.items s (with_owner side (stream_at (state_of old) s) (Held to number)) in
      let made = moved_made (state_of old) end to s e stream_is i.sound in
      let held : StateIsHeld (state_of new) = subst (λ (r : Reaction). StateIsHeld r.state) transfers-is (transfers-held (state_of old) side end to s e stream_is side_is i.sound i.held) in
      record {
        held = held;
        told = told_again old new s side (Held to number) between made refl o i held
            (rw m.guests
            (but-members freed (with_end_in freed to side end.ty s) more s between.sets (members-with_table freed to _ (sets_in freed to) (λ n q. refl))
            (but-left guests freed more s end.guest end.handle (leaves-left guests end.guest _ end.handle (move_fits (state_of old) end to e).leaves.there) old.ready.sets between.sets leaves.home leaves.is leaves.leaves
            (but-besides guests guests old.streams.items more s old.ready.sets (λ _ _ _. refl) (besides-set old.streams.items s _) i.told))));
        ready_counted = counted_again old new s side (Held to number) between made refl o i (ap length m.guests ∙ length-set freed to _ ∙ length-set guests end.guest _);
      }

  pub IsStore-moved : LeavesHome old end.guest end.handle between → old.is_trapped ≡ false → refusal (state_of old) (Transfer end to) ≡ None → s ≡ stream_named (named (state_of old) end) → side ≡ side_named (named (state_of old) end) → IsStore old → IsStore new
  IsStore-moved leaves t e stream_is side_is i =
      let guests = guests_of old.guests.items in
      let freed = without_handle_in guests end.guest end.handle in
      IsStore-counted old new
      (record {
        handles = kept_counted old new o.same.limits m.counter m.live i;
        sets = o.live_sets ∙ i.sets ∙ sym (ap sets_among m.guests ∙ sets-with_table freed to _ (sets_in freed to) refl ∙ sets-with_table guests end.guest _ (handle_left (sets_in guests end.guest) end.handle) refl);
        sizes = ap own_sizes_of m.guests ∙ own_sizes_of-with_handles freed to _ ∙ own_sizes_of-with_table guests end.guest _ _;
        bytes = o.bytes;
      })
      (counts old new s side (Held to number) between (moved_made (state_of old) end to s e stream_is i.sound) refl o i)
      (subst (λ (r : Reaction). IsSound r.state) transfers-is (transfers-sound (state_of old) side end to s t e stream_is side_is i.sound)) (agrees_moved leaves e stream_is side_is i) i

-- ## Loose ends

loose_made : (state : State) (reader : ℕ) → is_loose (stream_at state reader).reader.owner ≡ true → reader < length state.streams
loose_made state reader e =
    ⊎_elim (λ l. l) (λ l. let past : stream_at state reader ≡ no_stream = get_or_past state.streams reader no_stream l in let no = rw past at e in cc) (cases_lt reader (length state.streams))

-- a loose end that may be dropped, and one that may be lowered, is one of a stream that was made
pub close_made : (state : State) (reader : ℕ) → refusal state (OnLoose reader Close) ≡ None → reader < length state.streams
close_made state reader e = loose_made state reader (close_fits state reader e)

loose_unheld : (owner : Owner) → is_loose owner ≡ true → is_held owner ≡ false
loose_unheld (Held g handle) e = cc
loose_unheld _ e = refl

-- and no guest has it
pub close_unheld : (state : State) (reader : ℕ) → refusal state (OnLoose reader Close) ≡ None → is_held (stream_at state reader).reader.owner ≡ false
close_unheld state reader e = loose_unheld (stream_at state reader).reader.owner (close_fits state reader e)

pub lower_made : (state : State) (reader g : ℕ) (ty : TransmitIndex) → refusal state (OnLoose reader (Lower g ty)) ≡ None → reader < length state.streams
lower_made state reader g ty e = loose_made state reader (lower_fits state reader g ty e).loose

-- a loose end came into a guest, under this handle
module _ (old new : Inside) (s g : ℕ) (ty : TransmitIndex) (number : ℕ) (o : SetsOwner old new s Reading (Held g number) old.ready) (m : Gives old new Reading ty g s number) where
  pub lowers-is : lowers (state_of old) s g ty ≡ goes (replies.Number number) (state_of new)
  lowers-is = rw (o.same.tag, o.same.limits, o.same.producers, o.same.kept, o.same.consumers, o.same.contexts, o.same.trapped, m.guests, o.streams, m.number) refl

  agrees_lowered : refusal (state_of old) (OnLoose s (Lower g ty)) ≡ None → IsStore old → Agrees new
  agrees_lowered e i =
      let guests = guests_of old.guests.items in
      let more = set old.streams.items s (with_owner Reading (stream_at (state_of old) s) (Held g number)) in
      let held : StateIsHeld (state_of new) = subst (λ (r : Reaction). StateIsHeld r.state) lowers-is (lowers-held (state_of old) s g ty e i.sound i.held) in
      record {
        held = held;
        told = told_again old new s Reading (Held g number) old.ready (lower_made (state_of old) s g ty e) refl o i held
            (rw m.guests
            (but-besides guests (with_end_in guests g Reading ty s) old.streams.items more s old.ready.sets (members-with_table guests g _ (sets_in guests g) (λ n q. refl)) (besides-set old.streams.items s _) i.told));
        ready_counted = counted_again old new s Reading (Held g number) old.ready (lower_made (state_of old) s g ty e) refl o i (ap length m.guests ∙ length-set guests g _);
      }

  pub IsStore-lowered : old.is_trapped ≡ false → refusal (state_of old) (OnLoose s (Lower g ty)) ≡ None → IsStore old → IsStore new
  IsStore-lowered t e i =
      let guests = guests_of old.guests.items in
      let fits = lower_fits (state_of old) s g ty e in
      IsStore-counted old new
      (record {
        handles = more_counted old new o.same.limits m.counter m.live (fits_below old i fits.handles) i;
        sets = o.live_sets ∙ i.sets ∙ sym (ap sets_among m.guests ∙ sets-with_table guests g _ (sets_in guests g) refl);
        sizes = ap own_sizes_of m.guests ∙ own_sizes_of-with_handles guests g _;
        bytes = o.bytes;
      })
      (counts old new s Reading (Held g number) old.ready (lower_made (state_of old) s g ty e) refl o i)
      (subst (λ (r : Reaction). IsSound r.state) lowers-is (lowers-sound (state_of old) s g ty t e i.sound)) (agrees_lowered e i) i
