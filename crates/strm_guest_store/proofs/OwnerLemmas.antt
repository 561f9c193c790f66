-- An operation stays one of the guest that has its end, and one that is not being cancelled, through every step; and
-- no step but a read or write traps a store.
use Rattle.std.proofs.Common.{◌≡◌, ℕ, zero, suc, Bool, true, false, List, [], ◌∷◌, ◌++◌, length, get_or, set, Option, Some, None, refl, sym, ap, ◌∙◌}
use Rattle.std.specs.Prelude.{is_some, nat_lt}
use Rattle.std.proofs.lemmas.Bool.{cond_both}
use Rattle.strm_codes.specs.declared.codes.ReturnCode.{ReturnCode}
use Rattle.strm_codes.specs.declared.codes.TransmitIndex.{TransmitIndex}
use Rattle.strm_codes.specs.declared.refusals.Refusal.{Refusal}
use Rattle.strm_machine.specs.State.{State, Guest, no_stream, stream_at, is_gone, is_loose, is_host, idle_end}
use Rattle.strm_machine.specs.Making.{made_pair, made_stream, with_stream}
use Rattle.strm_machine.specs.Meetings.{begun, advanced}
use Rattle.strm_machine.specs.Moves.{with_owner, without_handle, next_in}
use Rattle.strm_machine.specs.Operating.{Operated, with_received, moves, completes_alone, rendezvous_by, learns, finds, operate}
use Rattle.strm_machine.specs.Endings.{report_on, told_end, delivered, dropped, waits_for_host, code_of_cancel, cancelled_end, cancelled}
use Rattle.strm_machine.specs.Refusals.{refusal, first_of, lower_context_reasons}
use Rattle.strm_machine.specs.Reactions.{Reaction, written_back, polls, shares_unless, performs, reaction, lowers_context}
use Rattle.strm_machine.specs.WaitableSets.{ready_in}
use Rattle.strm_machine.specs.Sides.{opposite, same_side, end_of, with_end, with_operation}
use Rattle.strm_machine.specs.Soundness.{IsSound}
use Rattle.strm_machine.specs.Tests.{named, end_named, stream_named, side_named, items_asked, was_asked}
use Rattle.strm_machine.specs.declared.acts.Act.{Act}
use Rattle.strm_machine.specs.declared.acts.Act.TheVariants.{Make, OnEnd, Transfer, OnLoose, OnHost, Drive, Event, OnSet, OnContext, OnMemory}
use Rattle.strm_machine.specs.declared.acts.ContextAct.TheVariants as context_acts
use Rattle.strm_machine.specs.declared.acts.EndAct.TheVariants.{Operate, Drop, Cancel, Lift}
use Rattle.strm_machine.specs.declared.acts.LooseAct.TheVariants.{Lower, Close}
use Rattle.strm_machine.specs.declared.acts.Making.TheVariants.{Guest as AGuest, Between, Set, Context}
use Rattle.strm_machine.specs.declared.acts.MemoryAct.TheVariants.{Poke, Dump}
use Rattle.strm_machine.specs.declared.acts.NamedEnd.{NamedEnd}
use Rattle.strm_machine.specs.declared.acts.SetAct.TheVariants as set_acts
use Rattle.strm_machine.specs.declared.streams.End.{End}
use Rattle.strm_machine.specs.declared.streams.Meeting.{Meeting}
use Rattle.strm_machine.specs.declared.streams.Meeting.TheVariants.{BothComplete, WriteCompletes, ReadCompletes}
use Rattle.strm_machine.specs.declared.streams.Operation.{Operation}
use Rattle.strm_machine.specs.declared.streams.Owner.{Owner}
use Rattle.strm_machine.specs.declared.streams.Owner.TheVariants.{Held, Loose, Gone}
use Rattle.strm_machine.specs.declared.streams.Side.{Side}
use Rattle.strm_machine.specs.declared.streams.Side.TheVariants.{Writing, Reading}
use Rattle.strm_machine.specs.declared.streams.Stream.{Stream}
use Rattle.strm_machine.proofs.HeldLemmas.{StateIsHeld}
use Rattle.strm_machine.proofs.ReactionLemmas.{reaction-by, refusal-on_end}
use Rattle.strm_machine.proofs.RefusalLemmas.{LeaveFits, drop_fits, lift_fits, move_fits, lower_fits, close_fits}
use Rattle.strm_machine.proofs.Shapes.{Operates}
use Rattle.strm_machine.proofs.ShapeLemmas.{operate-fits}
use Rattle.strm_places.specs.Again.{put, with_pair_at, reaction_at}
use Rattle.strm_places.proofs.AgainLemmas.{performs_at-by, reaction_at-by}
use Rattle.strm_places.proofs.CalmLemmas.{waits_not}
use Rattle.strm_transmit.specs.Guests.{AreUnhosted, AreOfOwners}
use Rattle.strm_guest_store.specs.Among.{HandlesAgree, AreUncancelled}

-- ## Handles and ends that agree

-- as the machine's lemmas have it
pub of_agreed : (state : State) → HandlesAgree state → StateIsHeld state
of_agreed state h = record { tables = h.tables; agree = record { named = h.named; held = h.held } }

pub agreed : (state : State) → StateIsHeld state → HandlesAgree state
agreed state h = record { tables = h.tables; named = h.agree.named; held = h.agree.held }

-- ## One end

-- an operation of the guest that has the end, which is not being cancelled
abbrev IsHeldBy : End → Operation → Type 0
IsHeldBy end operation = ((handle : ℕ) × (end.owner ≡ Held operation.guest handle)) × (operation.asked ≡ false)

abbrev IsKept : End → Type 0
IsKept end = (operation : Operation) → end.operation ≡ Some operation → IsHeldBy end operation

-- of an end without an operation nothing is said
idle-owned : (end : End) → end.operation ≡ None → IsKept end
idle-owned end none operation e = let wrong : None ≡ Some operation = sym none ∙ e in cc

-- one that nobody can have had an operation on
not_busy : (o : Option Operation) → is_some o ≡ false → o ≡ None
not_busy None e = refl
not_busy (Some operation) e = cc

-- a loose end has none
loose_is_held : (owner : Owner) (g handle : ℕ) → is_loose owner ≡ true → owner ≡ Held g handle → ⊥
loose_is_held owner g handle e h = let wrong : is_loose owner ≡ false = ap is_loose h in cc

loose-idle : (end : End) → IsKept end → is_loose end.owner ≡ true → end.operation ≡ None
loose-idle end own loose = by end.operation refl
  where
    by : (o : Option Operation) → end.operation ≡ o → o ≡ None
    by None e = refl
    by (Some operation) e = let held = (own operation e).0 in absurd (loose_is_held end.owner operation.guest held.0 loose held.1)

-- its operation ends, or stays
told_by-owned : (code : Option ReturnCode) (end : End) → IsKept end → IsKept (told_end code end)
told_by-owned None end own = own
told_by-owned (Some code) end own = λ operation e. cc

-- a cancel that waits for no host end ends it
cancelled_by-owned : (waits : Bool) (code : ReturnCode) (end : End) → waits ≡ false → IsKept end → IsKept (cancelled_end waits code end)
cancelled_by-owned false code end e own = told_by-owned (Some code) end own
cancelled_by-owned true code end e own = λ operation f. let wrong : true ≡ false = e in cc

-- ## One stream

-- of both ends of a stream
abbrev StreamOwned : Stream → Type 0
StreamOwned stream = (side : Side) → IsKept (end_of side stream)

with_end-owned : (side : Side) (stream : Stream) (end : End) → StreamOwned stream → IsKept end → StreamOwned (with_end side stream end)
with_end-owned Writing stream end all own Writing = own
with_end-owned Writing stream end all own Reading = all Reading
with_end-owned Reading stream end all own Writing = all Writing
with_end-owned Reading stream end all own Reading = own

-- another owner, where the end has no operation
with_owner-owned : (side : Side) (stream : Stream) (owner : Owner) → StreamOwned stream → (end_of side stream).operation ≡ None → StreamOwned (with_owner side stream owner)
with_owner-owned side stream owner all none =
    with_end-owned side stream (record (end_of side stream) { owner = owner }) all (idle-owned (record (end_of side stream) { owner = owner }) none)

delivered-owned : (side : Side) (stream : Stream) → StreamOwned stream → StreamOwned (delivered side stream)
unfolding delivered
delivered-owned side stream all =
    with_end-owned side stream (told_end (report_on side stream) (end_of side stream)) all (told_by-owned (report_on side stream) (end_of side stream) (all side))

cancelled-owned : (side : Side) (stream : Stream) → is_host (end_of (opposite side) stream).owner ≡ false → StreamOwned stream → StreamOwned (cancelled side stream)
unfolding cancelled
cancelled-owned side stream none all =
    with_end-owned side stream (cancelled_end (waits_for_host side stream) (code_of_cancel side stream) (end_of side stream)) all
    (cancelled_by-owned (waits_for_host side stream) (code_of_cancel side stream) (end_of side stream) (waits_not side stream none) (all side))

dropped-owned : (side : Side) (stream : Stream) → StreamOwned stream → (end_of side stream).operation ≡ None → StreamOwned (dropped side stream)
unfolding dropped
dropped-owned side stream all none = with_owner-owned side stream Gone all none

-- an operation of the guest that has the end
with_operation-owned : (side : Side) (stream : Stream) (mine : Operation) → StreamOwned stream → IsHeldBy (end_of side stream) mine → StreamOwned (with_operation side stream mine)
with_operation-owned side stream mine all held =
    with_end-owned side stream (record (end_of side stream) { operation = Some mine }) all
    (λ operation e.
    let same : mine ≡ operation = cc in
    ((held.0.0, held.0.1 ∙ ap (λ (o : Operation). Held o.guest held.0.0) same), ap (λ (o : Operation). o.asked) (sym same) ∙ held.1))

received-owned : (stream : Stream) (n : ℕ) → StreamOwned stream → StreamOwned (with_received stream n)
received-owned stream n all Writing = all Writing
received-owned stream n all Reading = all Reading

owner-received : (side : Side) (stream : Stream) (n : ℕ) → (end_of side (with_received stream n)).owner ≡ (end_of side stream).owner
owner-received Writing stream n = refl
owner-received Reading stream n = refl

owner-other : (side : Side) (stream : Stream) (end : End) → (end_of side (with_end (opposite side) stream end)).owner ≡ (end_of side stream).owner
owner-other Writing stream end = refl
owner-other Reading stream end = refl

-- ## A read or write

module _ (side : Side) (guests : List Guest) (stream : Stream) (mine : Operation) (all : StreamOwned stream) (held : IsHeldBy (end_of side stream) mine) where
  abbrev Leaves : Operated → Type 0
  Leaves t = StreamOwned t.stream

  waits-owned : StreamOwned (with_operation side stream mine)
  waits-owned = with_operation-owned side stream mine all held

  module _ (theirs : Operation) (is : (end_of (opposite side) stream).operation ≡ Some theirs) where
    theirs_held : IsHeldBy (end_of (opposite side) stream) theirs
    theirs_held = all (opposite side) theirs is

    moves-owned : (n : ℕ) (o : Option (List Guest)) → Leaves (moves side guests stream mine theirs n o)
    moves-owned n None = all
    moves-owned n (Some after) =
        with_operation-owned (opposite side) (with_received stream n) (advanced stream.payload theirs n) (received-owned stream n all)
        ((theirs_held.0.0, owner-received (opposite side) stream n ∙ theirs_held.0.1), theirs_held.1)

    alone-owned : (who : Side) → Leaves (completes_alone who side guests stream mine theirs)
    alone-owned who =
        let met = advanced stream.payload theirs 0 in
        let stopped = with_operation (opposite side) stream met in
        cond_both (same_side who side) _ _ Leaves
        (λ e. all)
        (λ e. with_operation-owned side stopped mine (with_operation-owned (opposite side) stream met all theirs_held)
        ((held.0.0, owner-other side stream (record (end_of (opposite side) stream) { operation = Some met }) ∙ held.0.1), held.1))

    rendezvous-owned : (m : Meeting) → Leaves (rendezvous_by m side guests stream mine theirs)
    rendezvous-owned BothComplete = moves-owned _ _
    rendezvous-owned WriteCompletes = alone-owned Writing
    rendezvous-owned ReadCompletes = alone-owned Reading

  finds-owned : (o : Option Operation) → (end_of (opposite side) stream).operation ≡ o → Leaves (finds side guests stream mine o)
  finds-owned None is = waits-owned
  finds-owned (Some theirs) is =
      cond_both theirs.is_open _ _ Leaves (λ e. rendezvous-owned theirs is _) (λ e. waits-owned)

  learns-owned : Leaves (learns side guests stream)
  learns-owned = with_end-owned side stream (record (end_of side stream) { told = true }) all (all side)

  operate-owned : Leaves (operate side guests stream mine)
  unfolding operate
  operate-owned =
      cond_both (is_gone (end_of (opposite side) stream).owner) _ _ Leaves
      (λ e. learns-owned)
      (λ e. finds-owned (end_of (opposite side) stream).operation refl)

-- ## All streams

abbrev pub AreKept : List Stream → Type 0
AreKept streams = (s : ℕ) → StreamOwned (get_or streams s no_stream)

-- each operation is of the guest that has its end, and none is being cancelled
pub kept_by : (streams : List Stream) → AreOfOwners streams → AreUncancelled streams → AreKept streams
kept_by streams owned uncancelled s side operation e = (owned s side operation e, ap was_asked (sym e) ∙ uncancelled s side)

pub owned_by : (streams : List Stream) → AreKept streams → AreOfOwners streams
owned_by streams kept s side operation e = (kept s side operation e).0

pub uncancelled_by : (streams : List Stream) → AreKept streams → AreUncancelled streams
uncancelled_by streams kept s side = by (end_of side (get_or streams s no_stream)).operation refl
  where
    by : (o : Option Operation) → (end_of side (get_or streams s no_stream)).operation ≡ o → was_asked o ≡ false
    by None e = refl
    by (Some operation) e = (kept s side operation e).1

-- one of them is another
set-owned : (streams : List Stream) (s : ℕ) (x : Stream) → AreKept streams → StreamOwned x → AreKept (set streams s x)
set-owned [] s x all own k side = all k side
set-owned (y ∷ ys) zero x all own zero side = own side
set-owned (y ∷ ys) zero x all own (suc k) side = all (suc k) side
set-owned (y ∷ ys) (suc s) x all own zero side = all zero side
set-owned (y ∷ ys) (suc s) x all own (suc k) side = set-owned ys s x (λ j. all (suc j)) own k side

-- there is one more
push-owned : (streams : List Stream) (x : Stream) → AreKept streams → StreamOwned x → AreKept (streams ++ x ∷ [])
push-owned [] x all own zero side = own side
push-owned [] x all own (suc k) side = all (suc k) side
push-owned (y ∷ ys) x all own zero side = all zero side
push-owned (y ∷ ys) x all own (suc k) side = push-owned ys x (λ j. all (suc j)) own k side

-- one that has just been made
made-owned : (ty : TransmitIndex) (writer write reader read : ℕ) → StreamOwned (made_stream ty writer write reader read)
made-owned ty writer write reader read Writing = idle-owned (idle_end (Held writer write)) refl
made-owned ty writer write reader read Reading = idle-owned (idle_end (Held reader read)) refl

put-owned : (streams : List Stream) (n : ℕ) (x : Stream) → AreKept streams → StreamOwned x → AreKept (put streams n x)
unfolding put
put-owned streams n x all own =
    cond_both (nat_lt n (length streams)) _ _ AreKept (λ e. set-owned streams n x all own) (λ e. push-owned streams x all own)

written-owned : (state : State) (s : ℕ) (t : Operated) (code : Option ReturnCode) → AreKept state.streams → StreamOwned t.stream → AreKept (written_back state s t code).state.streams
written-owned state s t None all own = set-owned state.streams s t.stream all own
written-owned state s t (Some code) all own = set-owned state.streams s t.stream all own

-- ## Every step

module _ (state : State) (sound : IsSound state) (held : StateIsHeld state) (none : AreUnhosted state.streams) (all : AreKept state.streams) where
  abbrev Keeps : Reaction → Type 0
  Keeps r = AreKept r.state.streams

  set_here : (s : ℕ) (x : Stream) → StreamOwned x → AreKept (set state.streams s x)
  set_here s x own = set-owned state.streams s x all own

  told-owned : (s : ℕ) (side : Side) → AreKept (set state.streams s (delivered side (stream_at state s)))
  told-owned s side = set_here s (delivered side (stream_at state s)) (delivered-owned side (stream_at state s) (all s))

  polls-owned : (g : ℕ) (o : Option ℕ) → Keeps (polls state g o)
  polls-owned g None = all
  polls-owned g (Some handle) = told-owned (stream_named (end_named state g handle)) (side_named (end_named state g handle))

  leaves-owned : (side : Side) (end : NamedEnd) (owner : Owner) → LeaveFits state side end → AreKept (set state.streams (stream_named (named state end)) (with_owner side (stream_at state (stream_named (named state end))) owner))
  leaves-owned side end owner fits =
      let s = stream_named (named state end) in
      set_here s (with_owner side (stream_at state s) owner) (with_owner-owned side (stream_at state s) owner (all s) (not_busy (end_of side (stream_at state s)).operation fits.idle))

  loose-owned : (s : ℕ) (owner : Owner) → is_loose (stream_at state s).reader.owner ≡ true → AreKept (set state.streams s (with_owner Reading (stream_at state s) owner))
  loose-owned s owner loose =
      set_here s (with_owner Reading (stream_at state s) owner)
      (with_owner-owned Reading (stream_at state s) owner (all s) (loose-idle (stream_at state s).reader (all s Reading) loose))

  turn-owned : (side : Side) (end : NamedEnd) (address count : ℕ) → Operates state side end address count → Keeps (performs state (OnEnd side end (Operate address count)))
  unfolding performs
  turn-owned side end address count fits =
      let s = stream_named (named state end) in
      let mine = begun end.guest address (items_asked end.ty count) in
      let t = operate side state.guests (stream_at state s) mine in
      written-owned state s t t.code all
      (operate-owned side state.guests (stream_at state s) mine (all s)
      ((end.handle, held.agree.named end.guest end.handle s side fits.found.held), refl))

  pub performs-owned : (act : Act) → refusal state act ≡ None → Keeps (performs state act)
  unfolding performs with_stream dropped
  performs-owned (Make (AGuest size)) e = all
  performs-owned (Make (Between writer reader ty)) e =
      let pair = made_pair state writer reader ty in
      push-owned state.streams (made_stream ty writer pair.write reader pair.read) all (made-owned ty writer pair.write reader pair.read)
  performs-owned (Make (Set g)) e = all
  performs-owned (Make (Context g address len)) e = all
  performs-owned (OnEnd side end (Operate address count)) e =
      turn-owned side end address count (operate-fits state side end address count sound (sym (refusal-on_end state side end (Operate address count)) ∙ e))
  performs-owned (OnEnd side end Drop) e = leaves-owned side end Gone (drop_fits state side end (sym (refusal-on_end state side end Drop) ∙ e))
  performs-owned (OnEnd side end Cancel) e =
      let s = stream_named (named state end) in
      set_here s (cancelled side (stream_at state s)) (cancelled-owned side (stream_at state s) (none s (opposite side)) (all s))
  performs-owned (OnEnd side end Lift) e = leaves-owned side end Loose (lift_fits state side end (sym (refusal-on_end state side end Lift) ∙ e))
  performs-owned (Transfer end to) e =
      leaves-owned (side_named (named state end)) end (Held to (next_in (without_handle state end.guest end.handle) to)) (move_fits state end to e).leaves
  performs-owned (OnLoose reader (Lower g ty)) e = loose-owned reader (Held g (next_in state g)) (lower_fits state reader g ty e).loose
  performs-owned (OnLoose reader Close) e = loose-owned reader Gone (close_fits state reader e)
  performs-owned (OnHost host act) e = all
  performs-owned Drive e = all
  performs-owned (Event g handle) e = told-owned (stream_named (end_named state g handle)) (side_named (end_named state g handle))
  performs-owned (OnSet g set (set_acts.Join handle)) e = all
  performs-owned (OnSet g set set_acts.Poll) e = polls-owned g (ready_in state g set)
  performs-owned (OnSet g set set_acts.Drop) e = all
  performs-owned (OnContext g handle (context_acts.Text address)) e = all
  performs-owned (OnContext g handle (context_acts.Move to)) e = all
  performs-owned (OnContext g handle context_acts.Drop) e = all
  performs-owned (OnMemory g (Poke address bytes)) e = all
  performs-owned (OnMemory g (Dump address len)) e = all

  pub reaction-owned : (act : Act) → Keeps (reaction state act)
  reaction-owned act = reaction-by Keeps state act (λ t. all) (λ r e. all) (performs-owned act)

  in-owned : (n writer reader : ℕ) (ty : TransmitIndex) → AreKept (with_pair_at state n writer reader ty).streams
  unfolding with_pair_at
  in-owned n writer reader ty =
      let pair = made_pair state writer reader ty in
      put-owned state.streams n (made_stream ty writer pair.write reader pair.read) all (made-owned ty writer pair.write reader pair.read)

  pub making-owned : (n : ℕ) (act : Act) → Keeps (reaction_at n state act)
  making-owned n act =
      reaction_at-by Keeps n state act
      (record {
        trapped = λ t. all;
        refused = λ r t e. all;
        performed = λ t e. performs_at-by Keeps n state act (λ writer reader ty is. in-owned n writer reader ty) (performs-owned act e);
      })

shared-owned : (state : State) (number g : ℕ) (o : Option Refusal) → AreKept state.streams → AreKept (shares_unless state number g o).state.streams
shared-owned state number g (Some r) all = all
shared-owned state number g None all = all

pub lowering-owned : (state : State) (number g : ℕ) → AreKept state.streams → AreKept (lowers_context state number g).state.streams
unfolding lowers_context
lowering-owned state number g all =
    cond_both state.trapped _ _ (λ (r : Reaction). AreKept r.state.streams) (λ t. all)
    (λ t. shared-owned state number g (first_of (lower_context_reasons state number g)) all)

no_stream-owned : StreamOwned no_stream
no_stream-owned Writing = idle-owned no_stream.writer refl
no_stream-owned Reading = idle-owned no_stream.reader refl

-- where there is none
pub none-owned : AreKept []
none-owned s side = no_stream-owned side

-- ## What traps a store

-- an act that copies no item, so that no item can be none: it neither reads nor writes
abbrev pub copies_none : Act → Bool
copies_none (OnEnd side end (Operate address count)) = false
copies_none act = true

-- an act whose reaction leaves the store as little trapped as it was
module _ (state : State) where
  abbrev StaysSo : Reaction → Type 0
  StaysSo r = r.state.trapped ≡ state.trapped

  polls-stays : (g : ℕ) (o : Option ℕ) → StaysSo (polls state g o)
  polls-stays g None = refl
  polls-stays g (Some handle) = refl

  performs-stays : (act : Act) → copies_none act ≡ true → StaysSo (performs state act)
  unfolding performs with_stream
  performs-stays (Make (AGuest size)) k = refl
  performs-stays (Make (Between writer reader ty)) k = refl
  performs-stays (Make (Set g)) k = refl
  performs-stays (Make (Context g address len)) k = refl
  performs-stays (OnEnd side end (Operate address count)) k = cc
  performs-stays (OnEnd side end Drop) k = refl
  performs-stays (OnEnd side end Cancel) k = refl
  performs-stays (OnEnd side end Lift) k = refl
  performs-stays (Transfer end to) k = refl
  performs-stays (OnLoose reader (Lower g ty)) k = refl
  performs-stays (OnLoose reader Close) k = refl
  performs-stays (OnHost host act) k = refl
  performs-stays Drive k = refl
  performs-stays (Event g handle) k = refl
  performs-stays (OnSet g set (set_acts.Join handle)) k = refl
  performs-stays (OnSet g set set_acts.Poll) k = polls-stays g (ready_in state g set)
  performs-stays (OnSet g set set_acts.Drop) k = refl
  performs-stays (OnContext g handle (context_acts.Text address)) k = refl
  performs-stays (OnContext g handle (context_acts.Move to)) k = refl
  performs-stays (OnContext g handle context_acts.Drop) k = refl
  performs-stays (OnMemory g (Poke address bytes)) k = refl
  performs-stays (OnMemory g (Dump address len)) k = refl

  pub reaction-stays : (act : Act) → copies_none act ≡ true → StaysSo (reaction state act)
  reaction-stays act k = reaction-by StaysSo state act (λ t. refl) (λ r e. refl) (λ e. performs-stays act k)

  in-stays : (n writer reader : ℕ) (ty : TransmitIndex) → (with_pair_at state n writer reader ty).trapped ≡ state.trapped
  unfolding with_pair_at
  in-stays n writer reader ty = refl

  pub making-stays : (n : ℕ) (act : Act) → copies_none act ≡ true → StaysSo (reaction_at n state act)
  making-stays n act k =
      reaction_at-by StaysSo n state act
      (record {
        trapped = λ t. refl;
        refused = λ r t e. refl;
        performed = λ t e. performs_at-by StaysSo n state act (λ writer reader ty is. in-stays n writer reader ty) (performs-stays act k);
      })

  shared-stays : (number g : ℕ) (o : Option Refusal) → StaysSo (shares_unless state number g o)
  shared-stays number g (Some r) = refl
  shared-stays number g None = refl

  pub lowering-stays : (number g : ℕ) → StaysSo (lowers_context state number g)
  unfolding lowers_context
  lowering-stays number g =
      cond_both state.trapped _ _ StaysSo (λ t. refl) (λ t. shared-stays number g (first_of (lower_context_reasons state number g)))
