-- Which ends a call makes ready: those of its own stream.
use Rattle.std.proofs.Common.{◌≡◌, ℕ, Bool, true, false, List, [], ◌∷◌, ◌++◌, length, get_or, set, cond, Option, Some, Result, Ok, Err, refl, sym, ap, ◌∙◌, subst, ⊎_elim}
use Rattle.std.specs.Prelude.{nat_lt}
use Rattle.std.proofs.lemmas.Bool.{cases_eq, ltb-true}
use Rattle.std.proofs.lemmas.List.{get_or-set_same, get_or_push}
use Rattle.strm_codes.specs.declared.codes.ReturnCode.{ReturnCode}
use Rattle.strm_codes.specs.declared.codes.TransmitIndex.{TransmitIndex}
use Rattle.strm_machine.specs.Acts.{act_of}
use Rattle.strm_machine.specs.Making.{made_stream}
use Rattle.strm_machine.specs.Reactions.{Reaction, react, performs, lowers_context}
use Rattle.strm_machine.specs.State.{State, no_stream, stream_at}
use Rattle.strm_machine.specs.declared.acts.Act.{Act}
use Rattle.strm_machine.specs.declared.acts.Act.TheVariants.{Make, OnEnd, Transfer, OnLoose, OnHost, Drive, Event, OnSet, OnContext, OnMemory}
use Rattle.strm_machine.specs.declared.acts.Making.TheVariants.{Guest, Between, Set, Context}
use Rattle.strm_machine.specs.declared.replies.Reply.{Reply}
use Rattle.strm_machine.specs.declared.replies.Reply.TheVariants as replies
use Rattle.strm_machine.specs.declared.steps.Step.{Step}
use Rattle.strm_machine.specs.declared.streams.Side.{Side}
use Rattle.strm_machine.specs.declared.streams.Side.TheVariants.{Writing, Reading}
use Rattle.strm_machine.specs.declared.streams.Stream.{Stream}
use Rattle.strm_places.specs.Again.{put, with_pair_at, performs_at, reaction_at}
use Rattle.strm_places.proofs.AgainLemmas.{reaction_at-by, reaction_at-behind}
use Rattle.strm_transmit.specs.Meets.{Meets}
use Rattle.strm_transmit.specs.Telling.{has_report}
use Rattle.strm_transmit.specs.declared.errors.StoreError.{StoreError}
use Rattle.strm_transmit.proofs.AgainLemmas.{meets_leaves}
use Rattle.strm_transmit.proofs.ToldLemmas.{besides-set, besides-push}
use Rattle.strm_guest_store.specs.Operations.{MeetsOrTells}
use Rattle.strm_guest_store.specs.OwnStreams.{own_stream, IsMadeReady}
use Rattle.strm_guest_store.specs.declared.operations.OperateError.{OperateError}
use Rattle.strm_guest_store.specs.declared.operations.OperateError.TheVariants as operate_errors
use Rattle.strm_guest_store.proofs.OwnStreamLemmas.{OwnOrStays, IsNoMaking, performs-stays, lowers_context-streams}

-- what has a report afterwards had one before, if nothing is made ready
pub unmade : (b c : Bool) → b ≡ false → c ≡ true → c ≡ b → ⊥
unmade b c was is same = cc

-- what holds of the state after a call, where an end that it makes ready is of the stream that it is upon
abbrev pub OnlyOwn : State → Option ℕ → ℕ → Side → State → Type 0
OnlyOwn old own s side new = IsMadeReady side (stream_at old s) (stream_at new s) → own ≡ Some s

-- where that end is to be told what it was
own_told : (old new : State) (own : Option ℕ) (s : ℕ) (side : Side) → has_report side (stream_at new s) ≡ has_report side (stream_at old s) → OnlyOwn old own s side new
own_told old new own s side same made = absurd (unmade (has_report side (stream_at old s)) (has_report side (stream_at new s)) made.before made.now same)

-- nothing has changed
own_still : (old : State) (own : Option ℕ) (s : ℕ) (side : Side) → OnlyOwn old own s side old
own_still old own s side = own_told old old own s side refl

-- ## A making

-- an end of a stream that is made is to be told nothing
fresh : (side : Side) (ty : TransmitIndex) (writer write reader read : ℕ) → has_report side (made_stream ty writer write reader read) ≡ false
fresh Writing ty writer write reader read = refl
fresh Reading ty writer write reader read = refl

-- one stream that tells nothing is put at a number
none-put : (old : State) (s : ℕ) (side : Side) (n : ℕ) (x : Stream) → has_report side x ≡ false
    → has_report side (stream_at old s) ≡ false → has_report side (get_or (put old.streams n x) s no_stream) ≡ false
unfolding put
none-put old s side n x none was = by (nat_lt n (length old.streams)) refl
  where
    by : (b : Bool) → nat_lt n (length old.streams) ≡ b → has_report side (get_or (cond b (set old.streams n x) (old.streams ++ x ∷ [])) s no_stream) ≡ false
    by true l = ⊎_elim
        (λ e. ap (λ k. has_report side (get_or (set old.streams n x) k no_stream)) e ∙ ap (has_report side) (get_or-set_same old.streams n x no_stream (ltb-true n (length old.streams) l)) ∙ none)
        (λ ne. ap (has_report side) (besides-set old.streams n x s ne) ∙ was)
        (cases_eq s n)
    by false l = ⊎_elim
        (λ e. ap (λ k. has_report side (get_or (old.streams ++ x ∷ []) k no_stream)) e ∙ ap (has_report side) (get_or_push old.streams x no_stream (length old.streams) refl) ∙ none)
        (λ ne. ap (has_report side) (besides-push old.streams x s ne) ∙ was)
        (cases_eq s (length old.streams))

-- so a making makes none ready
own-made : (old : State) (own : Option ℕ) (n s : ℕ) (side : Side) (writer reader : ℕ) (ty : TransmitIndex) → OnlyOwn old own s side (with_pair_at old n writer reader ty)
unfolding with_pair_at
own-made old own n s side writer reader ty made =
    absurd (unmade false _ refl made.now (none-put old s side n _ (fresh side ty writer _ reader _) made.before))

-- ## Any other act

own-stays : (old : State) (own : Option ℕ) (after : List Stream) (s : ℕ) (side : Side)
    → OwnOrStays old own s after → OnlyOwn old own s side (record old { streams = after })
own-stays old own after s side either =
    ⊎_elim
    (λ same made. same)
    (λ stays. own_told old (record old { streams = after }) own s side (ap (has_report side) stays))
    either

own-act : (old : State) (act : Act) (s : ℕ) (side : Side) → IsNoMaking act → OnlyOwn old (own_stream old act) s side (performs old act).state
own-act old act s side none made =
    own-stays old (own_stream old act) (performs old act).state.streams s side (performs-stays old act s none) made

-- what an act does, of which a stream that is made gets some number
performs_at-own : (n : ℕ) (old : State) (act : Act) (s : ℕ) (side : Side) → OnlyOwn old (own_stream old act) s side (performs_at n old act).state
unfolding performs_at
performs_at-own n old (Make (Between writer reader ty)) s side = own-made old _ n s side writer reader ty
performs_at-own n old (Make (Guest size)) s side = own-act old (Make (Guest size)) s side tt
performs_at-own n old (Make (Set g)) s side = own-act old (Make (Set g)) s side tt
performs_at-own n old (Make (Context g address len)) s side = own-act old (Make (Context g address len)) s side tt
performs_at-own n old (OnEnd end_side end act) s side = own-act old (OnEnd end_side end act) s side tt
performs_at-own n old (Transfer end to) s side = own-act old (Transfer end to) s side tt
performs_at-own n old (OnLoose reader act) s side = own-act old (OnLoose reader act) s side tt
performs_at-own n old (OnHost host act) s side = own-act old (OnHost host act) s side tt
performs_at-own n old Drive s side = own-act old Drive s side tt
performs_at-own n old (Event g handle) s side = own-act old (Event g handle) s side tt
performs_at-own n old (OnSet g set act) s side = own-act old (OnSet g set act) s side tt
performs_at-own n old (OnContext g handle act) s side = own-act old (OnContext g handle act) s side tt
performs_at-own n old (OnMemory g act) s side = own-act old (OnMemory g act) s side tt

-- ## A call

-- any reaction
own-reacts_at : (n : ℕ) (old : State) (act : Act) (s : ℕ) (side : Side) → OnlyOwn old (own_stream old act) s side (reaction_at n old act).state
own-reacts_at n old act s side =
    reaction_at-by (λ (r : Reaction). OnlyOwn old (own_stream old act) s side r.state) n old act
    (record {
      trapped = λ t. own_still old (own_stream old act) s side;
      refused = λ r t e. own_still old (own_stream old act) s side;
      performed = λ t e. performs_at-own n old act s side;
    })

pub making-own : (old new : State) (result : Result Reply StoreError) (n : ℕ) (act : Act) (s : ℕ) (side : Side)
    → Meets old new result (reaction_at n old act) → OnlyOwn old (own_stream old act) s side new
making-own old new result n act s side m =
    meets_leaves (OnlyOwn old (own_stream old act) s side) old new result (reaction_at n old act) (own_still old (own_stream old act) s side) (own-reacts_at n old act s side) m

-- a step is a making by the next number, or makes no stream
pub step-own : (old new : State) (result : Result Reply StoreError) (step : Step) (s : ℕ) (side : Side)
    → Meets old new result (react old step) → OnlyOwn old (own_stream old (act_of step)) s side new
step-own old new result step s side m =
    meets_leaves (OnlyOwn old (own_stream old (act_of step)) s side) old new result (react old step) (own_still old (own_stream old (act_of step)) s side)
    (subst (λ (r : Reaction). OnlyOwn old (own_stream old (act_of step)) s side r.state) (reaction_at-behind old (act_of step)) (own-reacts_at (length old.streams) old (act_of step) s side)) m

-- a read or write, also where it stops at an item that is none
pub operation-own : (old new : State) (result : Result ReturnCode OperateError) (step : Step) (s : ℕ) (side : Side)
    → MeetsOrTells old new result step → OnlyOwn old (own_stream old (act_of step)) s side new
operation-own old new (Ok code) step s side m = step-own old new (Ok (replies.Code code)) step s side m
operation-own old new (Err (operate_errors.Refused refusal)) step s side m = subst (OnlyOwn old (own_stream old (act_of step)) s side) (sym m.1) (own_still old (own_stream old (act_of step)) s side)
operation-own old new (Err (operate_errors.BadItem item)) step s side m = subst (OnlyOwn old (own_stream old (act_of step)) s side) (sym m.1) (own_still old (own_stream old (act_of step)) s side)

-- the lowering of an error context leaves all streams
pub lowers-own : (old new : State) (result : Result Reply StoreError) (number guest s : ℕ) (side : Side)
    → Meets old new result (lowers_context old number guest) → IsMadeReady side (stream_at old s) (stream_at new s) → ⊥
lowers-own old new result number guest s side m made = unmade (has_report side (stream_at old s)) (has_report side (stream_at new s)) made.before made.now same
  where
    same : has_report side (stream_at new s) ≡ has_report side (stream_at old s)
    same =
        meets_leaves (λ (x : State). has_report side (stream_at x s) ≡ has_report side (stream_at old s)) old new result (lowers_context old number guest) refl
        (ap (λ (xs : List Stream). has_report side (get_or xs s no_stream)) (lowers_context-streams old number guest)) m
