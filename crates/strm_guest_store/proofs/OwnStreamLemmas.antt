-- A step leaves each stream as it is but the one that it is upon, and one that it makes.
use Rattle.std.proofs.Common.{◌≡◌, ℕ, List, get_or, set, Option, Some, None, refl, sym, ap, subst, ⊎_elim, inl, inr}
use Rattle.std.specs.Prelude.{◌⊎◌}
use Rattle.std.proofs.lemmas.Bool.{cases_eq, cond_both}
use Rattle.std.proofs.lemmas.List.{get_or-set_other}
use Rattle.strm_codes.specs.declared.codes.ReturnCode.{ReturnCode}
use Rattle.strm_machine.specs.State.{State, no_stream, stream_at}
use Rattle.strm_machine.specs.Meetings.{begun}
use Rattle.strm_machine.specs.Operating.{Operated, operate}
use Rattle.strm_machine.specs.declared.streams.Operation.{Operation}
use Rattle.strm_machine.specs.declared.streams.Side.{Side}
use Rattle.strm_guest_store.specs.OwnStreams.{own_stream, stream_of_member}
use Rattle.strm_codes.specs.declared.refusals.Refusal.{Refusal}
use Rattle.strm_machine.specs.Reactions.{Reaction, goes, performs, written_back, on_stream, polls, shares_unless, lowers_context}
use Rattle.strm_machine.specs.Refusals.{first_of, lower_context_reasons}
use Rattle.strm_machine.specs.declared.replies.Reply.TheVariants as replies
use Rattle.strm_machine.specs.Tests.{end_named, named, stream_named, items_asked}
use Rattle.strm_machine.specs.WaitableSets.{ready_in}
use Rattle.strm_machine.specs.declared.streams.Stream.{Stream}
use Rattle.strm_machine.specs.declared.acts.Act.{Act}
use Rattle.strm_machine.specs.declared.acts.Act.TheVariants.{Make, OnEnd, Transfer, OnLoose, OnHost, Drive, Event, OnSet, OnContext, OnMemory}
use Rattle.strm_machine.specs.declared.acts.Making.TheVariants.{Guest, Between, Set, Context}
use Rattle.strm_machine.specs.declared.acts.EndAct.TheVariants.{Operate, Drop, Cancel, Lift}
use Rattle.strm_machine.specs.declared.acts.LooseAct.TheVariants.{Lower, Close}
use Rattle.strm_machine.specs.declared.acts.SetAct.TheVariants as set_acts
use Rattle.strm_machine.specs.declared.acts.ContextAct.TheVariants as context_acts
use Rattle.strm_machine.specs.declared.acts.MemoryAct.TheVariants.{Poke, Dump}

-- it is the stream that is meant, or stays
abbrev pub OwnOrStays : State → Option ℕ → ℕ → List Stream → Type 0
OwnOrStays state own s after = (own ≡ Some s) ⊎ (get_or after s no_stream ≡ stream_at state s)

-- where one stream is another
set-stays : (state : State) (t s : ℕ) (x : Stream) → OwnOrStays state (Some t) s (set state.streams t x)
set-stays state t s x =
    ⊎_elim
    (λ e. inl (ap Some e))
    (λ ne. inr (get_or-set_other state.streams t s x no_stream (λ e. ne (sym e))))
    (cases_eq t s)

-- whatever is answered, a turn sets one stream
written_back-streams : (state : State) (s : ℕ) (t : Operated) (code : Option ReturnCode) → (written_back state s t code).state.streams ≡ set state.streams s t.stream
written_back-streams state s t (Some code) = refl
written_back-streams state s t None = refl

on_stream-stays : (state : State) (n : ℕ) (side : Side) (mine : Operation) (s : ℕ) → OwnOrStays state (Some n) s (on_stream state n side mine).state.streams
on_stream-stays state n side mine s =
    let t = operate side state.guests (stream_at state n) mine in
    subst (λ (xs : List Stream). OwnOrStays state (Some n) s xs) (sym (written_back-streams state n t t.code)) (set-stays state n s t.stream)

-- a poll tells one member, or none
polls-stays : (state : State) (g s : ℕ) (o : Option ℕ) → OwnOrStays state (stream_of_member state g o) s (polls state g o).state.streams
polls-stays state g s None = inr refl
polls-stays state g s (Some handle) = set-stays state (stream_named (end_named state g handle)) s _

-- each act but the making of a stream
abbrev pub IsNoMaking : Act → Type 0
IsNoMaking (Make (Between writer reader ty)) = ⊥
IsNoMaking _ = Unit {0}

pub performs-stays : (state : State) (act : Act) (s : ℕ) → IsNoMaking act → OwnOrStays state (own_stream state act) s (performs state act).state.streams
unfolding performs
performs-stays state (Make (Guest size)) s none = inr refl
performs-stays state (Make (Between writer reader ty)) s none = absurd none
performs-stays state (Make (Set g)) s none = inr refl
performs-stays state (Make (Context g address len)) s none = inr refl
performs-stays state (OnEnd side end (Operate address count)) s none =
    on_stream-stays state (stream_named (named state end)) side (begun end.guest address (items_asked end.ty count)) s
performs-stays state (OnEnd side end Drop) s none = set-stays state _ s _
performs-stays state (OnEnd side end Cancel) s none = set-stays state _ s _
performs-stays state (OnEnd side end Lift) s none = set-stays state _ s _
performs-stays state (Transfer end to) s none = set-stays state _ s _
performs-stays state (OnLoose reader (Lower g ty)) s none = set-stays state reader s _
performs-stays state (OnLoose reader Close) s none = set-stays state reader s _
performs-stays state (OnHost host act) s none = inr refl
performs-stays state Drive s none = inr refl
performs-stays state (Event g handle) s none = set-stays state _ s _
performs-stays state (OnSet g set (set_acts.Join handle)) s none = inr refl
performs-stays state (OnSet g set set_acts.Poll) s none = polls-stays state g s (ready_in state g set)
performs-stays state (OnSet g set set_acts.Drop) s none = inr refl
performs-stays state (OnContext g handle (context_acts.Text address)) s none = inr refl
performs-stays state (OnContext g handle (context_acts.Move to)) s none = inr refl
performs-stays state (OnContext g handle context_acts.Drop) s none = inr refl
performs-stays state (OnMemory g (Poke address bytes)) s none = inr refl
performs-stays state (OnMemory g (Dump address len)) s none = inr refl

-- ## What is no step

shares_unless-streams : (state : State) (number g : ℕ) (o : Option Refusal) → (shares_unless state number g o).state.streams ≡ state.streams
shares_unless-streams state number g (Some refusal) = refl
shares_unless-streams state number g None = refl

-- the lowering of an error context leaves all streams
pub lowers_context-streams : (state : State) (number g : ℕ) → (lowers_context state number g).state.streams ≡ state.streams
unfolding lowers_context
lowers_context-streams state number g =
    cond_both state.trapped (goes replies.StoreTrapped state) (shares_unless state number g (first_of (lower_context_reasons state number g)))
    (λ (r : Reaction). r.state.streams ≡ state.streams) (λ e. refl) (λ e. shares_unless-streams state number g _)
