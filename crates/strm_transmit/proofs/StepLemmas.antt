-- The walk of every call: a trapped store answers nothing else, what may not be done is refused, and
-- what may be done is what the machine performs. A call gives its test and its doing.
use Rattle.std.proofs.Common.{◌≡◌, ◌≢◌, ap, Bool, true, false, cond, Option, Some, None, Result, Ok, Err, refl, sym, subst, ◌∙◌}
use Rattle.strm_codes.specs.declared.refusals.Refusal.{Refusal}
use Rattle.strm_codes.specs.declared.refusals.Refusal.TheVariants as refusals
use Rattle.strm_handles.specs.declared.errors.HandleError.{HandleError}
use Rattle.strm_handles.specs.declared.errors.HandleError.TheVariants as errors
use Rattle.strm_machine.specs.State.{State}
use Rattle.strm_machine.specs.Refusals.{refusal, first_of, slot_reasons, handle_reasons}
use Rattle.strm_machine.specs.Tests.{Name}
use Rattle.strm_machine.specs.Reactions.{Reaction, performs, reaction}
use Rattle.strm_machine.specs.declared.acts.Act.{Act}
use Rattle.strm_machine.specs.declared.replies.Reply.{Reply}
use Rattle.strm_machine.proofs.NameLemmas.{IsEndError, IsNameError}
use Rattle.strm_machine.proofs.ReactionLemmas.{reaction-trapped, reaction-refused, reaction-performs}
use Rattle.strm_transmit.specs.Meets.{Meets, as_answer, admitted, or_found}
use Rattle.strm_transmit.specs.declared.errors.StoreError.{StoreError}
use Rattle.strm_transmit.specs.declared.errors.StoreError.TheVariants.{Refused, StoreTrapped, OutOfMemory}

-- ## What was found, or what refused it

-- what was admitted: the store isn't trapped, nothing refused, and what was found is what was looked for
pub record IsAdmitted {V : Type 0} (state : State) (o : Option Refusal) (wanted value : V) : Type 0 where
  pub untrapped : state.trapped ≡ false
  pub none : o ≡ None
  pub same : value ≡ wanted

module _ {V : Type 0} (state : State) (o : Option Refusal) (wanted : V) (found : Result V Refusal) where
  pub is_admitted : (value : V) → found ≡ or_found o wanted → Ok value ≡ admitted state found → IsAdmitted state o wanted value
  is_admitted value e a = trapped_or state.trapped refl (a ∙ ap (admitted state) e)
    where
      passed_by : (q : Option Refusal) → state.trapped ≡ false → o ≡ q → Ok value ≡ as_answer (or_found q wanted) → IsAdmitted state o wanted value
      passed_by None t r k = record { untrapped = t; none = r; same = cc }
      passed_by (Some q) t r k = cc

      trapped_or : (b : Bool) → state.trapped ≡ b → Ok value ≡ cond b (Err StoreTrapped) (as_answer (or_found o wanted)) → IsAdmitted state o wanted value
      trapped_or true t k = cc
      trapped_or false t k = passed_by o t refl k

  -- what was not admitted has what a trapped store's answer has, and what each refusal has
  pub not_admitted : (P : StoreError → Type 0) (error : StoreError) → found ≡ or_found o wanted → Err error ≡ admitted state found → (state.trapped ≡ true → P StoreTrapped) → ((q : Refusal) → state.trapped ≡ false → o ≡ Some q → P (Refused q)) → P error
  not_admitted P error e a f g = trapped_or state.trapped refl (a ∙ ap (admitted state) e)
    where
      refused : (q : Option Refusal) → state.trapped ≡ false → o ≡ q → Err error ≡ as_answer {T = V} (or_found q wanted) → P error
      refused None t r k = cc
      refused (Some q) t r k = let same : Refused q ≡ error = cc in subst P same (g q t r)

      trapped_or : (b : Bool) → state.trapped ≡ b → Err error ≡ cond b (Err StoreTrapped) (as_answer {T = V} (or_found o wanted)) → P error
      trapped_or true t k = let same : StoreTrapped ≡ error = cc in subst P same (f t)
      trapped_or false t k = refused o t refl k

-- ## What a look-up of a handle came to

-- a look-up that asks for no type comes to a refusal of those that one of an end has
pub end_is_name : (error : HandleError) → IsEndError error → IsNameError error
end_is_name errors.UnknownHandle h = tt
end_is_name errors.WrongKind h = tt
end_is_name _ h = absurd h

-- the refusal that it comes to
pub record Refuses (error : HandleError) (q : Refusal) : Type 0 where
  pub unknown : error ≡ errors.UnknownHandle → q ≡ refusals.UnknownHandle
  pub kind : error ≡ errors.WrongKind → q ≡ refusals.WrongKind
  pub ty : error ≡ errors.WrongType → q ≡ refusals.WrongType

slot_first : (A : Type 0) (error : HandleError) (q : Refusal) → IsEndError error → Refuses error q → first_of (slot_reasons {A = A} (Err error)) ≡ Some q
slot_first A errors.UnknownHandle q h r = ap Some (sym (r.unknown refl))
slot_first A errors.WrongKind q h r = ap Some (sym (r.kind refl))
slot_first A _ q h r = absurd h

name_first : (error : HandleError) (q : Refusal) → IsNameError error → Refuses error q → first_of (handle_reasons (Err error)) ≡ Some q
name_first errors.UnknownHandle q h r = ap Some (sym (r.unknown refl))
name_first errors.WrongKind q h r = ap Some (sym (r.kind refl))
name_first errors.WrongType q h r = ap Some (sym (r.ty refl))
name_first _ q h r = absurd h

-- a handle that was not found is refused so
pub slot_refused : {A V : Type 0} (name : Result A HandleError) (error : HandleError) (q : Refusal) (v : V) → Err error ≡ name → IsEndError error → Refuses error q → Err q ≡ or_found (first_of (slot_reasons name)) v
slot_refused {A = A} name error q v is h r = sym (ap (λ o. or_found o v) (ap (λ x. first_of (slot_reasons x)) (sym is) ∙ slot_first A error q h r))

pub name_refused : {V : Type 0} (name : Name) (error : HandleError) (q : Refusal) (v : V) → Err error ≡ name → IsNameError error → Refuses error q → Err q ≡ or_found (first_of (handle_reasons name)) v
name_refused name error q v is h r = sym (ap (λ o. or_found o v) (ap (λ x. first_of (handle_reasons x)) (sym is) ∙ name_first error q h r))

-- ## An act

-- why an act was not admitted, as the machine's answer
pub meets_not_admitted : {V : Type 0} (state : State) (act : Act) (wanted : V) (found : Result V Refusal) (error : StoreError) → found ≡ or_found (refusal state act) wanted → Err error ≡ admitted state found → Meets state state (Err error) (reaction state act)
meets_not_admitted state act wanted found error e a =
    not_admitted state (refusal state act) wanted found (λ x. Meets state state (Err x) (reaction state act)) error e a
    (λ t. (reaction-trapped state act t, refl)) (λ q t r. (reaction-refused state act q t r, refl))

-- and memory had not run out
pub not_admitted_has_memory : {V : Type 0} (state : State) (o : Option Refusal) (wanted : V) (found : Result V Refusal) (error : StoreError) → found ≡ or_found o wanted → Err error ≡ admitted state found → error ≢ OutOfMemory
not_admitted_has_memory state o wanted found error e a =
    not_admitted state o wanted found (λ x. x ≢ OutOfMemory) error e a (λ t k. cc k) (λ q t r k. cc k)

-- an act that was admitted does with what was found what the machine performs
pub reacts : {V : Type 0} (state : State) (act : Act) (wanted value : V) (does : V → Reaction) → IsAdmitted state (refusal state act) wanted value → performs state act ≡ does wanted → reaction state act ≡ does value
reacts state act wanted value does a p =
    reaction-performs state act a.untrapped a.none ∙ p ∙ ap does (sym a.same)

-- so a doing that is what the machine performs is the call
pub meets_admitted : (old new : State) (act : Act) (reply : Result Reply StoreError) (done : Reaction) → reaction old act ≡ done → Meets old new reply done → Meets old new reply (reaction old act)
meets_admitted old new act reply done e m = subst (Meets old new reply) (sym e) m
