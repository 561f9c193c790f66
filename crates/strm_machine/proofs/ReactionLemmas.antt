-- What a step does, by what is known of the state and of the act.
use Rattle.std.proofs.Common.{◌≡◌, ℕ, min, take, drop, arith, Bool, true, false, cond, List, [], ◌∷◌, ◌++◌, Option, Some, None, refl, ap, ◌∙◌}
use Rattle.std.proofs.lemmas.Bool.{cond_both}
use Rattle.std.specs.Option.{option_or}
use Rattle.strm_codes.specs.declared.refusals.Refusal.{Refusal}
use Rattle.strm_machine.specs.Words.{State, memory_in, Side, first_of, Reaction, goes, NamedEnd, Act, OnEnd, OnMemory}
use Rattle.strm_machine.specs.Refusals.{Reason, on_end_reasons, lower_context_reasons, bytes_reasons, refusal}
use Rattle.strm_machine.specs.Reactions.{on_end, shares, shares_unless, lowers_context, performs, unless_refused, reaction}
use Rattle.strm_machine.specs.declared.acts.EndAct.{EndAct}
use Rattle.strm_machine.specs.declared.acts.MemoryAct.TheVariants.{Dump}
use Rattle.strm_machine.specs.declared.replies.Reply.TheVariants as replies

unless_refused-by : (P : Reaction → Type 0) (state : State) (act : Act) (o : Option Refusal) → refusal state act ≡ o → ((r : Refusal) → refusal state act ≡ Some r → P (goes (replies.Refused r) state)) → (refusal state act ≡ None → P (performs state act)) → P (unless_refused state act o)
unless_refused-by P state act None e refused performed = performed e
unless_refused-by P state act (Some r) e refused performed = refused r e

-- what holds of the three ways that a step can go holds of the step
pub reaction-by : (P : Reaction → Type 0) (state : State) (act : Act) → (state.trapped ≡ true → P (goes replies.StoreTrapped state)) → ((r : Refusal) → refusal state act ≡ Some r → P (goes (replies.Refused r) state)) → (refusal state act ≡ None → P (performs state act)) → P (reaction state act)
unfolding reaction
reaction-by P state act trapped refused performed =
    cond_both state.trapped _ _ P trapped (λ e. unless_refused-by P state act (refusal state act) refl refused performed)

pub reaction-trapped : (state : State) (act : Act) → state.trapped ≡ true → reaction state act ≡ goes replies.StoreTrapped state
unfolding reaction
reaction-trapped state act t = rw t refl

pub reaction-refused : (state : State) (act : Act) (r : Refusal) → state.trapped ≡ false → refusal state act ≡ Some r → reaction state act ≡ goes (replies.Refused r) state
unfolding reaction
reaction-refused state act r t e =
    ap (λ b. cond b (goes replies.StoreTrapped state) (unless_refused state act (refusal state act))) t
    ∙ ap (unless_refused state act) e

pub reaction-performs : (state : State) (act : Act) → state.trapped ≡ false → refusal state act ≡ None → reaction state act ≡ performs state act
unfolding reaction
reaction-performs state act t e =
    ap (λ b. cond b (goes replies.StoreTrapped state) (unless_refused state act (refusal state act))) t
    ∙ ap (unless_refused state act) e

or_cond : (b : Bool) (r : Refusal) (o p q : Option Refusal) → o ≡ option_or p q → cond b (Some r) o ≡ option_or (cond b (Some r) p) q
or_cond true r o p q e = refl
or_cond false r o p q e = e

-- the first reason of two lists
pub first_of-append : (xs ys : List Reason) → first_of (xs ++ ys) ≡ option_or (first_of xs) (first_of ys)
first_of-append [] ys = refl
first_of-append (x ∷ xs) ys = or_cond x.holds x.refusal (first_of (xs ++ ys)) (first_of xs) (first_of ys) (first_of-append xs ys)

-- what is done to an end
pub refusal-on_end : (state : State) (side : Side) (end : NamedEnd) (act : EndAct) → refusal state (OnEnd side end act) ≡ first_of (on_end_reasons state side end act)
unfolding refusal
refusal-on_end state side end act = refl

pub performs-on_end : (state : State) (side : Side) (end : NamedEnd) (act : EndAct) → performs state (OnEnd side end act) ≡ on_end state side end act
unfolding performs
performs-on_end state side end act = refl

-- the lowering of an error context, which is no step
pub lowers_context-trapped : (state : State) (number g : ℕ) → state.trapped ≡ true → lowers_context state number g ≡ goes replies.StoreTrapped state
unfolding lowers_context
lowers_context-trapped state number g t = rw t refl

pub lowers_context-refused : (state : State) (number g : ℕ) (r : Refusal) → state.trapped ≡ false → first_of (lower_context_reasons state number g) ≡ Some r → lowers_context state number g ≡ goes (replies.Refused r) state
unfolding lowers_context
lowers_context-refused state number g r t e =
    ap (λ b. cond b (goes replies.StoreTrapped state) (shares_unless state number g (first_of (lower_context_reasons state number g)))) t
    ∙ ap (shares_unless state number g) e

pub lowers_context-performs : (state : State) (number g : ℕ) → state.trapped ≡ false → first_of (lower_context_reasons state number g) ≡ None → lowers_context state number g ≡ shares state number g
unfolding lowers_context
lowers_context-performs state number g t e =
    ap (λ b. cond b (goes replies.StoreTrapped state) (shares_unless state number g (first_of (lower_context_reasons state number g)))) t
    ∙ ap (shares_unless state number g) e

least : (len : ℕ) → min (min len 64) 64 ≡ min len 64
least len = omega arith

refusal-dump : (state : State) (g address len : ℕ) → refusal state (OnMemory g (Dump address (min len 64))) ≡ refusal state (OnMemory g (Dump address len))
unfolding refusal
refusal-dump state g address len = ap (λ n. first_of (bytes_reasons state g address n)) (least len)

performs-dump : (state : State) (g address len : ℕ) → performs state (OnMemory g (Dump address (min len 64))) ≡ performs state (OnMemory g (Dump address len))
unfolding performs
performs-dump state g address len =
    ap (λ n. goes (replies.Bytes (take n (drop address (memory_in state.guests g)))) state) (least len)

same_unless : (state : State) (one other : Act) (o : Option Refusal) → performs state one ≡ performs state other → unless_refused state one o ≡ unless_refused state other o
same_unless state one other None e = e
same_unless state one other (Some r) e = refl

-- at most 64 bytes are looked at
pub reaction-dump : (state : State) (g address len : ℕ) → reaction state (OnMemory g (Dump address (min len 64))) ≡ reaction state (OnMemory g (Dump address len))
unfolding reaction
reaction-dump state g address len =
    let one = OnMemory g (Dump address (min len 64)) in
    let other = OnMemory g (Dump address len) in
    ap (cond state.trapped (goes replies.StoreTrapped state))
    (ap (unless_refused state one) (refusal-dump state g address len)
    ∙ same_unless state one other (refusal state other) (performs-dump state g address len))
