-- A read or write of a store among guests: it leaves the store so, and the item at which it stops is one only.
use Rattle.std.proofs.Common.{◌≡◌, ℕ, ◌+◌, min, true, false, Result, Ok, Err, refl, sym, ap, ◌∙◌, subst}
use Rattle.strm_codes.specs.declared.codes.ReturnCode.{ReturnCode}
use Rattle.strm_machine.specs.State.{State, stream_at}
use Rattle.strm_machine.specs.Acts.{act_of}
use Rattle.strm_machine.specs.Asked.{HasBadItem}
use Rattle.strm_machine.specs.Plays.{is_settled}
use Rattle.strm_machine.specs.Reactions.{Reaction, goes, reaction, react}
use Rattle.strm_machine.specs.Sides.{write_of}
use Rattle.strm_machine.specs.Tests.{named, stream_named}
use Rattle.strm_machine.specs.declared.acts.Act.{Act}
use Rattle.strm_machine.specs.declared.acts.Act.TheVariants.{OnEnd}
use Rattle.strm_machine.specs.declared.acts.EndAct.TheVariants.{Operate}
use Rattle.strm_machine.specs.declared.acts.NamedEnd.{NamedEnd}
use Rattle.strm_machine.specs.declared.replies.Reply.{Reply}
use Rattle.strm_machine.specs.declared.replies.Reply.TheVariants as replies
use Rattle.strm_machine.specs.declared.steps.Step.{Step}
use Rattle.strm_machine.specs.declared.streams.Operation.{Operation}
use Rattle.strm_machine.specs.declared.streams.Owner.TheVariants.{Held}
use Rattle.strm_machine.specs.declared.streams.Side.{Side}
use Rattle.strm_machine.proofs.AskedLemmas.{bad-traps, reply-bad, told-trapped, react-by}
use Rattle.strm_machine.proofs.HeldLemmas.{reaction-held}
use Rattle.strm_transmit.specs.BadItems.{MeetsOrStays, operation_step, IsFirstBad, IsBadItem}
use Rattle.strm_transmit.specs.Guests.{nobody}
use Rattle.strm_transmit.specs.Hosted.{StillFits}
use Rattle.strm_transmit.specs.declared.errors.StoreError.{StoreError}
use Rattle.strm_transmit.specs.declared.errors.StoreError.TheVariants as errors
use Rattle.strm_transmit.specs.declared.store.bad_items.BadItem.{BadItem}
use Rattle.strm_transmit.proofs.BadItemLemmas.{IsOpenAcross, is_across, act-of-step, mine_of, item-has_bad, first_once}
use Rattle.strm_transmit.proofs.GuestLemmas.{reaction-unhosted}
use Rattle.strm_guest_store.specs.Among.{IsAmongGuests}
use Rattle.strm_guest_store.specs.Operations.{StopsAtItem, MeetsOrTells}
use Rattle.strm_guest_store.specs.declared.operations.OperateError.{OperateError}
use Rattle.strm_guest_store.specs.declared.operations.OperateError.TheVariants as operate_errors
use Rattle.strm_guest_store.proofs.AmongLemmas.{LeavesGuests, kept_in, after-done}
use Rattle.strm_guest_store.proofs.CountLemmas.{reaction-many}
use Rattle.strm_guest_store.proofs.MadeLemmas.{reaction-made}
use Rattle.strm_guest_store.proofs.OwnerLemmas.{of_agreed, agreed, reaction-owned}

-- ## The call

-- an answer that is not the stop at an item that is none leaves the store as little trapped as it was
untrapped_by : (old : State) (step : Step) (reply : Reply) (new : State) → old.trapped ≡ false → is_settled reply ≡ true → react old step ≡ goes reply new → new.trapped ≡ false
untrapped_by old step reply new t s e =
    ap (λ (r : Reaction). r.state.trapped) (sym e)
    ∙ react-by (λ r. is_settled r.reply ≡ true → r.state.trapped ≡ false) old step
    (λ k h settled. cc)
    (λ r p settled. p.trapped ∙ t) t
    (ap (λ (r : Reaction). is_settled r.reply) e ∙ s)

module _ (old new : State) (side : Side) (end : NamedEnd) (address count : ℕ) (among : IsAmongGuests old) where
  abbrev act : Act
  act = OnEnd side end (Operate address count)

  abbrev step : Step
  step = operation_step side end address count

  reacted : reaction old act ≡ react old step
  reacted = ap (reaction old) (sym (act-of-step side end address count))

  -- one that is done leaves the store so
  pub operated_among : (code : ReturnCode) → StillFits old new → reaction old act ≡ goes (replies.Code code) new → IsAmongGuests new
  operated_among code f e =
      let is : (reaction old act).state ≡ new = ap (λ (r : Reaction). r.state) e in
      let leaves : LeavesGuests old (reaction old act).state = record {
        unhosted = reaction-unhosted old act among.unhosted;
        many = reaction-many old act refl among.unhosted.sound;
        held = agreed (reaction old act).state (reaction-held old act among.unhosted.sound (of_agreed old among.held));
        kept = reaction-owned old among.unhosted.sound (of_agreed old among.held) among.unhosted.none (kept_in old among) act;
        untrapped = ap (λ (s : State). s.trapped) is ∙ untrapped_by old step (replies.Code code) new among.untrapped refl (sym reacted ∙ e);
        made = reaction-made old among.made act;
      } in
      after-done old new (reaction old act) (replies.Code code) among leaves (f nobody among.fits) e

  -- and is the machine's step
  pub operated_meets : (code : ReturnCode) → reaction old act ≡ goes (replies.Code code) new → MeetsOrTells old new (Ok code) step
  operated_meets code e = sym reacted ∙ e

  -- one that is not leaves all as it was
  pub not_stays : (error : StoreError) → MeetsOrStays old new (Err error) (reaction old act) → new ≡ old
  not_stays (errors.Refused refusal) m = m.1
  not_stays (errors.HostFailed end) m = absurd m
  not_stays (errors.HostBroke end) m = absurd m
  not_stays (errors.BadItem stream) m = m.1
  not_stays errors.StoreTrapped m = m.1
  not_stays errors.OutOfMemory m = m.1

  pub not_among : (error : StoreError) → MeetsOrStays old new (Err error) (reaction old act) → IsAmongGuests new
  not_among error m = subst IsAmongGuests (sym (not_stays error m)) among

  pub not_meets : (error : StoreError) → MeetsOrStays old new (Err error) (reaction old act) → MeetsOrStays new new (Err error) (react new step)
  not_meets error m =
      let same = not_stays error m in
      subst (λ (s : State). MeetsOrStays s s (Err error) (react s step)) (sym same)
      (subst (MeetsOrStays old old (Err error)) reacted (subst (λ (s : State). MeetsOrStays old s (Err error) (reaction old act)) same m))

  pub not_tells : (error : StoreError) (why : OperateError) → MeetsOrStays old new (Err error) (reaction old act) → MeetsOrTells new new (Err why) step → MeetsOrTells old new (Err why) step
  not_tells error why m t = subst (λ (s : State). MeetsOrTells s new (Err why) step) (not_stays error m) t

-- ## Why it was not done

module _ (state : State) (step : Step) (untrapped : state.trapped ≡ false) where
  -- nothing traps it, so nothing says that it is trapped
  pub never_trapped : {A : Type 0} → MeetsOrStays state state (Err errors.StoreTrapped) (react state step) → A
  never_trapped m =
      let wrong : true ≡ false = sym (told-trapped state step (ap (λ (r : Reaction). r.reply) m.0)) ∙ untrapped in cc

  -- where the machine stops at an item that is none, there is one
  pub stops_somewhere : (stream : ℕ) → MeetsOrStays state state (Err (errors.BadItem stream)) (react state step) → ((s : ℕ) → HasBadItem state step s → ⊥) → ⊥
  stops_somewhere stream m none = none stream (reply-bad state step stream untrapped (ap (λ (r : Reaction). r.reply) m.0))

  -- and it is the one that was found
  pub stops_there : (item : BadItem) → IsBadItem state step item → StopsAtItem state step item
  stops_there item found = record {
    found = found;
    answer = ap (λ (r : Reaction). r.reply) (bad-traps state step found.stream untrapped (item-has_bad state step item found));
  }

-- ## The item is one only

-- by the operands of the call
record IsBadOn (state : State) (side : Side) (end : NamedEnd) (address count : ℕ) (item : BadItem) : Type 0 where
  theirs : Operation
  across : IsOpenAcross side (stream_at state (stream_named (named state end))) theirs
  writer : (stream_at state (stream_named (named state end))).writer.owner ≡ Held item.guest item.handle
  place : ℕ
  first : IsFirstBad state (stream_at state (stream_named (named state end))).payload (write_of side (mine_of end address count) theirs)
      (min (mine_of end address count).left theirs.left) place
  index : item.index ≡ (write_of side (mine_of end address count) theirs).moved + place

abbrev ActIsBad : State → BadItem → Act → Type 0
ActIsBad state item (OnEnd side end (Operate address count)) = IsBadOn state side end address count item
ActIsBad state item _ = ⊥

act_is_bad : (state : State) (step : Step) (item : BadItem) → IsBadItem state step item → ActIsBad state item (act_of step)
act_is_bad state call item h =
    let a = h.asked in
    let on : h.stream ≡ stream_named (named state a.end) = sym a.stream in
    let first : IsFirstBad state (stream_at state h.stream).payload (write_of a.side (mine_of a.end a.address a.count) a.theirs) (min (mine_of a.end a.address a.count).left a.theirs.left) h.place =
    subst (λ (o : Operation). IsFirstBad state (stream_at state h.stream).payload (write_of a.side o a.theirs) (min o.left a.theirs.left) h.place) a.begins h.first in
    let here : IsBadOn state a.side a.end a.address a.count item = record {
      theirs = a.theirs;
      across = subst (λ n. IsOpenAcross a.side (stream_at state n) a.theirs) on (record { there = a.there; waits = a.waits; opened = a.opened });
      writer = subst (λ n. (stream_at state n).writer.owner ≡ Held item.guest item.handle) on h.writer;
      place = h.place;
      first = subst (λ n. IsFirstBad state (stream_at state n).payload (write_of a.side (mine_of a.end a.address a.count) a.theirs) (min (mine_of a.end a.address a.count).left a.theirs.left) h.place) on first;
      index = subst (λ (o : Operation). item.index ≡ (write_of a.side o a.theirs).moved + h.place) a.begins h.index;
    } in
    subst (ActIsBad state item) (sym a.does) here

same_item : (g handle index h other place : ℕ) → Held g handle ≡ Held h other → index ≡ place → ◌≡◌ {A = BadItem} (record { guest = g; handle = handle; index = index }) (record { guest = h; handle = other; index = place })
same_item g handle index h other place e f = let first : g ≡ h = cc in let second : handle ≡ other = cc in rw (first, second, f) refl

bad_once : (state : State) (side : Side) (end : NamedEnd) (address count : ℕ) (one other : BadItem) → IsBadOn state side end address count one → IsBadOn state side end address count other → one ≡ other
bad_once state side end address count one other h k =
    let stream = stream_at state (stream_named (named state end)) in
    let mine = mine_of end address count in
    let theirs : h.theirs ≡ k.theirs = let e = sym (is_across side stream h.theirs h.across) ∙ is_across side stream k.theirs k.across in cc in
    let first : IsFirstBad state stream.payload (write_of side mine k.theirs) (min mine.left k.theirs.left) h.place = subst (λ (o : Operation). IsFirstBad state stream.payload (write_of side mine o) (min mine.left o.left) h.place) theirs h.first in
    let place : h.place ≡ k.place = first_once _ _ _ h.place k.place first k.first in
    let index : one.index ≡ other.index = h.index ∙ ap (λ (o : Operation). (write_of side mine o).moved + h.place) theirs ∙ ap (λ n. (write_of side mine k.theirs).moved + n) place ∙ sym k.index in
    same_item one.guest one.handle one.index other.guest other.handle other.index (sym h.writer ∙ k.writer) index

act_bad_once : (state : State) (one other : BadItem) (act : Act) → ActIsBad state one act → ActIsBad state other act → one ≡ other
act_bad_once state one other (OnEnd side end (Operate address count)) h k = bad_once state side end address count one other h k
act_bad_once state one other _ h k = absurd h

-- so the same call tells the same again
pub told_again : (state new : State) (step : Step) (item : BadItem) (again : Result ReturnCode OperateError) → MeetsOrTells state state (Err (operate_errors.BadItem item)) step → IsAmongGuests state → MeetsOrTells state new again step → again ≡ Err (operate_errors.BadItem item)
told_again state new call item (Ok code) m among k =
    let wrong : replies.BadItem m.0.found.stream ≡ replies.Code code = sym m.0.answer ∙ ap (λ (r : Reaction). r.reply) k in cc
told_again state new call item (Err (operate_errors.Refused refusal)) m among k =
    let wrong : replies.BadItem m.0.found.stream ≡ replies.Refused refusal = sym m.0.answer ∙ ap (λ (r : Reaction). r.reply) k.0 in cc
told_again state new call item (Err (operate_errors.BadItem other)) m among k =
    ap (λ (i : BadItem). Err (operate_errors.BadItem i))
    (act_bad_once state other item (act_of call) (act_is_bad state call other k.0.found) (act_is_bad state call item m.0.found))
