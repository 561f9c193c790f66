-- A read or write that stops at an item that is none: nothing changes but that the store may be trapped, and
-- whose item it is.
use Rattle.std.proofs.Common.{◌≡◌, ℕ, ℤ, ◌+◌, ◌*◌, ◌<◌, ◌≤◌, min, List, set, drop, length, true, false, inl, inr, Option, Some, None, Result, Ok, Err, refl, sym, ap, ◌∙◌, subst, arith}
use Rattle.std.specs.Prelude.{IsSome, IsNone, OnErr, slice_get}
use Rattle.std.proofs.lemmas.Bool.{cond_both, cases_lt}
use Rattle.std.proofs.lemmas.List.{set-get_or}
use Rattle.std.proofs.lemmas.Option.{slice_get_past}
use Rattle.strm_codes.specs.declared.codes.ReturnCode.{ReturnCode}
use Rattle.strm_codes.specs.declared.refusals.Refusal.{Refusal}
use Rattle.strm_codes.specs.Layout.{item_type}
use Rattle.strm_codes.specs.ItemTypes.{item_size, ItemType}
use Rattle.strm_codes.specs.declared.payloads.Payload.{Payload}
use Rattle.strm_memory.specs.declared.copies.BadItem.{BadItem as Bad}
use Rattle.strm_memory.specs.Items.{items, items_at, good_items, IsFirstBadItem}
use Rattle.strm_memory.specs.Loads.{decode}
use Rattle.strm_memory.proofs.GoodLemmas.{good_take, good_counted, behind_good, past_none}
use Rattle.strm_machine.specs.State.{State, Guest, no_stream, stream_at, is_gone, is_held}
use Rattle.strm_machine.specs.Acts.{act_of}
use Rattle.strm_machine.specs.Asked.{HasBadItem}
use Rattle.strm_machine.specs.Meetings.{begun}
use Rattle.strm_machine.specs.Operating.{Operated, moves, completes_alone, rendezvous_by, finds, operate}
use Rattle.strm_machine.specs.Reactions.{Reaction, goes, written_back, on_stream, reaction}
use Rattle.strm_machine.specs.Refusals.{refusal}
use Rattle.strm_machine.specs.Sides.{opposite, same_side, end_of, write_of}
use Rattle.strm_machine.specs.Soundness.{IsSound}
use Rattle.strm_machine.specs.Tests.{named, stream_named, items_asked}
use Rattle.strm_machine.specs.declared.acts.Act.{Act}
use Rattle.strm_machine.specs.declared.acts.Act.TheVariants.{OnEnd}
use Rattle.strm_machine.specs.declared.acts.EndAct.TheVariants.{Operate}
use Rattle.strm_machine.specs.declared.acts.NamedEnd.{NamedEnd}
use Rattle.strm_machine.specs.declared.replies.Reply.{Reply}
use Rattle.strm_machine.specs.declared.replies.Reply.TheVariants as replies
use Rattle.strm_machine.specs.declared.steps.Step.{Step}
use Rattle.strm_machine.specs.declared.streams.Meeting.{Meeting}
use Rattle.strm_machine.specs.declared.streams.Meeting.TheVariants.{BothComplete, WriteCompletes, ReadCompletes}
use Rattle.strm_machine.specs.declared.streams.Operation.{Operation}
use Rattle.strm_machine.specs.declared.streams.Owner.TheVariants.{Held}
use Rattle.strm_machine.specs.declared.streams.Side.{Side}
use Rattle.strm_machine.specs.declared.streams.Side.TheVariants.{Writing, Reading}
use Rattle.strm_machine.specs.declared.streams.Stream.{Stream}
use Rattle.strm_memory.proofs.NoByteLemmas.{some_items-no_bytes}
use Rattle.strm_machine.proofs.HeldLemmas.{StateIsHeld}
use Rattle.strm_machine.proofs.ReactionLemmas.{reaction-trapped, reaction-refused, refusal-on_end}
use Rattle.strm_machine.proofs.Shapes.{Operates}
use Rattle.strm_machine.proofs.ShapeLemmas.{operate-fits}
use Rattle.strm_channels.specs.Guests.{guests_of}
use Rattle.strm_channels.specs.Meetings.{meeting_answered}
use Rattle.strm_channels.specs.declared.guests.Guest as ours
use Rattle.strm_host_machine.specs.Does.{Fits}
use Rattle.strm_transmit.specs.BadItems.{MeetsOrStays, left_by_error, operation_step, open_operation, open_across, IsFirstBad, IsBadItem}
use Rattle.strm_transmit.specs.Guests.{AreOfOwners}
use Rattle.strm_transmit.specs.Hosted.{StillFits}
use Rattle.strm_transmit.specs.Inside.{AreServed}
use Rattle.strm_transmit.specs.Meets.{admitted, or_found}
use Rattle.strm_transmit.specs.declared.errors.StoreError.{StoreError}
use Rattle.strm_transmit.specs.declared.errors.StoreError.TheVariants as errors
use Rattle.strm_transmit.specs.declared.store.bad_items.BadItem.{BadItem}
use Rattle.strm_transmit.proofs.FitsLemmas.{though_trapped}
use Rattle.strm_transmit.proofs.StepLemmas.{not_admitted}
use Rattle.strm_transmit.proofs.StillLemmas.{still_fits}

-- ## A turn without a code

-- it changes nothing
module _ (side : Side) (guests : List Guest) (stream : Stream) (mine : Operation) where
  abbrev Stays : Operated → Type 0
  Stays t = t.code ≡ None → t ≡ record { code = None; guests = guests; stream = stream }

  moves-stay : (theirs : Operation) (n : ℕ) (o : Option (List Guest)) → Stays (moves side guests stream mine theirs n o)
  moves-stay theirs n None e = refl
  moves-stay theirs n (Some after) e = cc

  alone-stay : (who : Side) (theirs : Operation) → Stays (completes_alone who side guests stream mine theirs)
  alone-stay who theirs = cond_both (same_side who side) _ _ Stays (λ b e. cc) (λ b e. cc)

  rendezvous-stay : (m : Meeting) (theirs : Operation) → Stays (rendezvous_by m side guests stream mine theirs)
  rendezvous-stay BothComplete theirs = moves-stay theirs _ _
  rendezvous-stay WriteCompletes theirs = alone-stay Writing theirs
  rendezvous-stay ReadCompletes theirs = alone-stay Reading theirs

  finds-stay : (o : Option Operation) → Stays (finds side guests stream mine o)
  finds-stay None = λ e. cc
  finds-stay (Some theirs) = cond_both theirs.is_open _ _ Stays (λ b. rendezvous-stay _ theirs) (λ b e. cc)

  operate-stay : Stays (operate side guests stream mine)
  unfolding operate
  operate-stay =
      cond_both (is_gone (end_of (opposite side) stream).owner) _ _ Stays
      (λ b e. cc)
      (λ b. finds-stay (end_of (opposite side) stream).operation)

-- what a turn leaves, as the store has it
module _ (state new : State) (s : ℕ) (side : Side) (mine : Operation) (guests : List Guest) (stream : Stream)
    (is : new ≡ record state { guests = guests; streams = set state.streams s stream }) where
  module _ (e : operate side state.guests (stream_at state s) mine ≡ record { code = None; guests = guests; stream = stream }) where
    as_it_was : operate side state.guests (stream_at state s) mine ≡ record { code = None; guests = state.guests; stream = stream_at state s }
    as_it_was = operate-stay side state.guests (stream_at state s) mine (ap (λ (t : Operated). t.code) e)

    pub took_none : on_stream state s side mine ≡ goes (replies.BadItem s) (record state { trapped = true })
    took_none =
        ap (λ (t : Operated). written_back state s t t.code) as_it_was
        ∙ ap (λ streams. goes (replies.BadItem s) (record state { streams = streams; trapped = true })) (set-get_or state.streams s no_stream)

    pub took_stays : new ≡ state
    took_stays =
        let same = sym e ∙ as_it_was in
        is
        ∙ ap (λ (t : Operated). record state { guests = t.guests; streams = set state.streams s t.stream }) same
        ∙ ap (λ streams. record state { streams = streams }) (set-get_or state.streams s no_stream)

-- where a turn answers an item that is none
module _ (state new : State) (s : ℕ) (side : Side) (mine : Operation) (guests : List ours.Guest) (stream : Stream)
    (is : new ≡ record state { guests = guests_of guests; streams = set state.streams s stream }) where
  pub on_err-bad : (result : Result ReturnCode Bad) → operate side state.guests (stream_at state s) mine ≡ meeting_answered result guests stream → OnErr result (on_stream state s side mine ≡ goes (replies.BadItem s) (record state { trapped = true }))
  on_err-bad (Ok code) e = tt
  on_err-bad (Err bad) e = took_none state new s side mine (guests_of guests) stream is e

  pub on_err-stays : (result : Result ReturnCode Bad) → operate side state.guests (stream_at state s) mine ≡ meeting_answered result guests stream → OnErr result (new ≡ state)
  on_err-stays (Ok code) e = tt
  on_err-stays (Err bad) e = took_stays state new s side mine (guests_of guests) stream is e

-- ## A call

-- why a call was not admitted
pub stays_not_admitted : {V : Type 0} (state : State) (act : Act) (wanted : V) (found : Result V Refusal) (error : StoreError) → found ≡ or_found (refusal state act) wanted → Err error ≡ admitted state found → MeetsOrStays state state (Err error) (reaction state act)
stays_not_admitted state act wanted found error e a =
    not_admitted state (refusal state act) wanted found (λ x. MeetsOrStays state state (Err x) (reaction state act)) error e a
    (λ t. (reaction-trapped state act t, refl)) (λ q t r. (reaction-refused state act q t r, refl))

-- one that was admitted
pub stays_admitted : (old new : State) (result : Result Reply StoreError) (did done : Reaction) → did ≡ done → MeetsOrStays old new result done → MeetsOrStays old new result did
stays_admitted old new result did done e m = subst (MeetsOrStays old new result) (sym e) m

module _ (old new : State) (act : Act) (sound : IsSound old) (served : AreServed old.producers old.consumers old.streams) where
  stays_fit : new ≡ old → StillFits old new
  stays_fit e tells fits = subst (λ (s : State). Fits s tells) (sym e) fits

  -- host ends that fitted the store fit it still
  pub fits_or_stays : (result : Result Reply StoreError) → MeetsOrStays old new result (reaction old act) → StillFits old new
  fits_or_stays (Ok reply) m = still_fits old new act (Ok reply) sound served m
  fits_or_stays (Err (errors.BadItem stream)) m = stays_fit m.1
  fits_or_stays (Err (errors.Refused q)) m = stays_fit m.1
  fits_or_stays (Err (errors.HostFailed end)) m = absurd m
  fits_or_stays (Err (errors.HostBroke end)) m = absurd m
  fits_or_stays (Err errors.StoreTrapped) m = stays_fit m.1
  fits_or_stays (Err errors.OutOfMemory) m = stays_fit m.1

-- an item that is none traps the store afterwards
pub left_fits : (error : StoreError) (old mid : State) → StillFits old mid → StillFits old (left_by_error error mid)
left_fits (errors.BadItem stream) old mid f = λ tells fits. though_trapped mid tells (f tells fits)
left_fits (errors.Refused q) old mid f = f
left_fits (errors.HostFailed end) old mid f = f
left_fits (errors.HostBroke end) old mid f = f
left_fits errors.StoreTrapped old mid f = f
left_fits errors.OutOfMemory old mid f = f

-- ## What is open across

pub record IsOpenAcross (side : Side) (stream : Stream) (theirs : Operation) : Type 0 where
  pub there : is_gone (end_of (opposite side) stream).owner ≡ false
  pub waits : (end_of (opposite side) stream).operation ≡ Some theirs
  pub opened : theirs.is_open ≡ true

opened_is : (o : Option Operation) (theirs : Operation) → open_operation o ≡ Some theirs → (o ≡ Some theirs) × (theirs.is_open ≡ true)
opened_is None theirs = λ e. cc
opened_is (Some operation) theirs =
    cond_both operation.is_open _ _ (λ (o : Option Operation). o ≡ Some theirs → (Some operation ≡ Some theirs) × (theirs.is_open ≡ true))
    (λ b e. let same : operation ≡ theirs = cc in (e, ap (λ (o : Operation). o.is_open) (sym same) ∙ b))
    (λ b e. cc)

pub across_is : (side : Side) (stream : Stream) (theirs : Operation) → open_across side stream ≡ Some theirs → IsOpenAcross side stream theirs
across_is side stream theirs =
    cond_both (is_gone (end_of (opposite side) stream).owner) _ _ (λ (o : Option Operation). o ≡ Some theirs → IsOpenAcross side stream theirs)
    (λ b e. cc)
    (λ b e. let o = opened_is (end_of (opposite side) stream).operation theirs e in record { there = b; waits = o.0; opened = o.1 })

pub is_across : (side : Side) (stream : Stream) (theirs : Operation) → IsOpenAcross side stream theirs → open_across side stream ≡ Some theirs
is_across side stream theirs h = rw (h.there, h.waits, h.opened) refl

-- ## The item of a step, by the operands of the call

pub act-of-step : (side : Side) (end : NamedEnd) (address count : ℕ) → act_of (operation_step side end address count) ≡ OnEnd side end (Operate address count)
act-of-step Writing end address count = refl
act-of-step Reading end address count = refl

-- the operation as it begins
abbrev pub mine_of : NamedEnd → ℕ → ℕ → Operation
mine_of end address count = begun end.guest address (items_asked end.ty count)

-- ## The first that is none

-- what is counted tells which it is, or that there is none
module _ (bytes : List ℕ) (ss : ItemType) (count place : ℕ) (e : place ≡ length (good_items ss bytes count)) where
  pub first_is : place < count → IsFirstBadItem ss bytes count place
  first_is l =
      let good = good_take ss bytes count place (omega (arith, e)) in
      let behind = behind_good ss bytes count place l (omega (arith, e)) in
      record {
        within = l;
        before = rw good refl;
        bad = rw (behind, slice_get_past (good_items ss bytes count) place (omega (arith, e))) refl;
      }

  pub none_bad : count ≤ place → IsSome (items ss bytes count)
  none_bad l =
      let all : count ≤ length (good_items ss bytes count) = omega (arith, e, l) in
      rw (good_take ss bytes count count all) refl

-- ## Who writes it

-- by the step's own end, or by the operation that waits
module _ (state : State) (side : Side) (end : NamedEnd) (address count : ℕ) (sound : IsSound state) (held : StateIsHeld state) (owned : AreOfOwners state.streams) where
  abbrev stream : Stream
  stream = stream_at state (stream_named (named state end))

  pub writer_held : (theirs : Operation) → refusal state (OnEnd side end (Operate address count)) ≡ None → IsOpenAcross side stream theirs → is_held stream.writer.owner ≡ true
  writer_held theirs none across = by side refl
    where
      fits : Operates state side end address count
      fits = operate-fits state side end address count sound (sym (refusal-on_end state side end (Operate address count)) ∙ none)

      by : (k : Side) → side ≡ k → is_held stream.writer.owner ≡ true
      by Writing e =
          let here = held.agree.named end.guest end.handle (stream_named (named state end)) side fits.found.held in
          ap is_held (subst (λ k. (end_of k stream).owner ≡ Held end.guest end.handle) e here)
      by Reading e =
          let waits : stream.writer.operation ≡ Some theirs = subst (λ k. (end_of (opposite k) stream).operation ≡ Some theirs) e across.waits in
          ap is_held (owned (stream_named (named state end)) Writing theirs waits).1

-- ## The item itself

-- one item before which all are items, and that is none, is the first such of all
bad_before : (ss : ItemType) (bytes : List ℕ) (count place : ℕ) → IsFirstBadItem ss bytes count place → (other : ℕ) → place < other → (o : Option (List (List ℤ))) → items ss bytes other ≡ o → IsSome o → ⊥
bad_before ss bytes count place h other l None e s = cc
bad_before ss bytes count place h other l (Some xs) e s =
    let all : other ≤ length (good_items ss bytes other) = good_counted ss bytes other other xs (omega arith) e in
    let behind = behind_good ss bytes other place l (omega (arith, l, all)) in
    let none : slice_get (good_items ss bytes other) place ≡ None = sym behind ∙ none_is (decode ss (drop (item_size ss * place) bytes)) h.bad in
    let past = past_none place (good_items ss bytes other) none in
    absurd (omega (arith, past, all, l))
  where
    none_is : (o : Option (List ℤ)) → IsNone o → o ≡ None
    none_is None k = refl
    none_is (Some x) k = cc

-- so there is one such only
pub first_once : (ss : ItemType) (bytes : List ℕ) (count one other : ℕ) → IsFirstBadItem ss bytes count one → IsFirstBadItem ss bytes count other → one ≡ other
first_once ss bytes count one other h k =
    elim (cases_lt one other) [
      | inl l ↦ absurd (bad_before ss bytes count one h other l (items ss bytes other) refl k.before)
      | inr l ↦ elim (cases_lt other one) [
        | inl m ↦ absurd (bad_before ss bytes count other k one m (items ss bytes one) refl h.before)
        | inr m ↦ omega (arith, l, m)
      ]
    ]

-- and all together are none
pub first-none : (ss : ItemType) (bytes : List ℕ) (count place : ℕ) → IsFirstBadItem ss bytes count place → items ss bytes count ≡ None
first-none ss bytes count place h = by (items ss bytes count) refl
  where
    by : (o : Option (List (List ℤ))) → items ss bytes count ≡ o → o ≡ None
    by None e = refl
    by (Some xs) e = absurd (bad_before ss bytes count place h count h.within (Some xs) e refl)

-- the item of a step is one of those that it asks to move
pub item-has_bad : (state : State) (step : Step) (item : BadItem) (h : IsBadItem state step item) → HasBadItem state step h.stream
item-has_bad state step item h = record { asked = h.asked; bad = first-none _ _ _ h.place h.first }

-- ## What the call finds

-- items that take no bytes are all there
pub nothing_there : (payload : Payload) (memory : List ℕ) (from count : ℕ) → item_size (item_type payload) ≡ 0 → IsSome (items_at (item_type payload) memory from count)
nothing_there payload memory from count e =
    some_items-no_bytes (item_type payload) (drop from memory) count e

-- what the call looks up: the stream and how many items, the stream itself, the operation across and its own, which of
-- them writes, how many items would move, the first of these that is none, and who has the write end
pub record Look : Type 0 where
  pub found : ℕ × ℕ
  pub stream : Stream
  pub theirs : Operation
  pub mine : Operation
  pub write : Operation
  pub both : ℕ
  pub place : ℕ
  pub owner : ℕ × ℕ

module _ (state : State) (side : Side) (end : NamedEnd) (address count : ℕ) where
  -- what a handle names, and what is asked for
  abbrev pub wanted : ℕ × ℕ
  wanted = (stream_named (named state end), items_asked end.ty count)

  -- each of these is what it is to be
  pub record LookedUp (x : Look) : Type 0 where
    pub none : refusal state (OnEnd side end (Operate address count)) ≡ None
    pub same : x.found ≡ wanted
    pub is : x.stream ≡ stream_at state x.found.0
    pub across : open_across side x.stream ≡ Some x.theirs
    pub begins : x.mine ≡ begun end.guest address x.found.1
    pub writes : x.write ≡ write_of side x.mine x.theirs
    pub both_is : x.both ≡ min x.mine.left x.theirs.left
    pub some : 0 < x.both
    pub first : IsFirstBad state x.stream.payload x.write x.both x.place
    pub writer : x.stream.writer.owner ≡ Held x.owner.0 x.owner.1

  -- the item that is told then
  abbrev pub item_of : Look → BadItem
  item_of x = record { guest = x.owner.0; handle = x.owner.1; index = x.write.moved + x.place }

  -- it is the one
  pub is_found : (x : Look) → LookedUp x → IsBadItem state (operation_step side end address count) (item_of x)
  is_found x h =
      let called = mine_of end address count in
      let theirs = x.theirs in
      let begun_is : x.mine ≡ called = h.begins ∙ ap (λ (q : ℕ × ℕ). begun end.guest address q.1) h.same in
      let across : IsOpenAcross side (stream_at state x.found.0) theirs = subst (λ (y : Stream). IsOpenAcross side y theirs) h.is (across_is side x.stream theirs h.across) in
      let there : 0 < min called.left theirs.left = subst (λ (o : Operation). 0 < min o.left theirs.left) begun_is (subst (λ n. 0 < n) h.both_is h.some) in
      let first : IsFirstBad state (stream_at state x.found.0).payload (write_of side called theirs) (min called.left theirs.left) x.place =
      subst (λ (y : Stream). IsFirstBad state y.payload (write_of side called theirs) (min called.left theirs.left) x.place) h.is
      (subst (λ (o : Operation). IsFirstBad state x.stream.payload (write_of side o theirs) (min o.left theirs.left) x.place) begun_is
      (subst (λ n. IsFirstBad state x.stream.payload (write_of side x.mine theirs) n x.place) h.both_is
      (subst (λ (o : Operation). IsFirstBad state x.stream.payload o x.both x.place) h.writes h.first))) in
      record {
        stream = x.found.0;
        asked = record {
          side = side;
          end = end;
          address = address;
          count = count;
          does = act-of-step side end address count;
          unrefused = subst (λ a. refusal state a ≡ None) (sym (act-of-step side end address count)) h.none;
          stream = sym (ap (λ (q : ℕ × ℕ). q.0) h.same);
          mine = called;
          begins = refl;
          asks = omega (arith, there);
          theirs = theirs;
          there = across.there;
          waits = across.waits;
          opened = across.opened;
          left = omega (arith, there);
        };
        writer = subst (λ (y : Stream). y.writer.owner ≡ Held x.owner.0 x.owner.1) h.is h.writer;
        place = x.place;
        first = first;
        index = ap (λ (o : Operation). o.moved + x.place) (h.writes ∙ ap (λ (o : Operation). write_of side o theirs) begun_is);
      }

  module _ (sound : IsSound state) (held : StateIsHeld state) (owned : AreOfOwners state.streams) (none : refusal state (OnEnd side end (Operate address count)) ≡ None) where
    -- somebody has the write end
    pub found_held : (found : ℕ × ℕ) (stream : Stream) (theirs : Operation) → found ≡ wanted → stream ≡ stream_at state found.0 → open_across side stream ≡ Some theirs → is_held stream.writer.owner ≡ true
    found_held found stream theirs same is across =
        let here : stream ≡ stream_at state (stream_named (named state end)) = is ∙ ap (λ (q : ℕ × ℕ). stream_at state q.0) same in
        subst (λ (y : Stream). is_held y.writer.owner ≡ true) (sym here)
        (writer_held state side end address count sound held owned theirs none (subst (λ (y : Stream). IsOpenAcross side y theirs) here (across_is side stream theirs across)))
